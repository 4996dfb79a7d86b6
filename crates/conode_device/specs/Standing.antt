-- A client and a node that stand after what happened to them.
use Rattle.std.specs.Prelude.{◌≡◌, ℕ, ◌+◌, ◌≤◌, List, ◌++◌, Option, OnOk, Result, Ok, Err}
use Rattle.std.specs.List.{flat_map}
use Rattle.std.specs.Io.KnownBytes.{Appends}
use Rattle.co_frame.specs.FrameContent.{FrameContent}
use Rattle.co_sdo_client.specs.Standing.{Standing, ClientStands}
use Rattle.co_node.specs.declared.node.Node.{Node}
use Rattle.co_node.specs.Nodes.{Stands}
use Rattle.co_node_model.specs.Inputs.{Inputs}
use Rattle.co_node_model.specs.Moments.{Constants}
use Rattle.co_node_model.specs.Loop.{
  Loop,
  BothEnds,
  after_round,
  download_of,
  frames_in,
  frames_of,
  last_ends,
  request_id,
  response_id,
  rounds,
  state_at,
}
use Rattle.co_sdo_client.specs.declared.mode.Mode.{Mode}
use Rattle.co_sdo_client.specs.declared.state.ClientState.TheVariants.{Done}
use Rattle.co_value.specs.declared.key.Key.{Key}
use Rattle.co_sdo_client.specs.declared.state.ClientState.{ClientState}
use Rattle.conode_io.specs.declared.fault.CmdFault.{CmdFault}
use Rattle.conode_io.specs.declared.fault.CmdFault.TheVariants.{BadLine, Memory, NeverEnds, Read, Write}
use Rattle.conode_io.specs.Written.{WritesFront, WritesLines, WritesSome}
use Rattle.conode_device.specs.Printed.{WritesFirst, frame_lines, lines_from, loop_lines}

-- a client and a node are in the state of both ends, and these requests are queued
pub record EndsStand (l : Loop) (e : BothEnds) (node : Node) (client : Standing)
    (waiting : List FrameContent) : Type 0 where
  pub node_stands : Stands l.node node e.inputs
  pub client_stands : ClientStands l.call e.events client
  pub request : client.request ≡ request_id l
  pub response : client.answer ≡ response_id l
  pub same_waiting : waiting ≡ e.waiting

-- The node is in its state after some rounds from `e`. At least the lines of all these rounds but
-- the last are written; `old` and `new` are what the writer has before and after, as far as known.
pub record StandsAfterSome (l : Loop) (e : BothEnds) (node : Node) (old new : Option (List ℕ)) : Type 0 where
  pub number : ℕ
  pub within : number ≤ 20000
  pub stands : Stands l.node node (rounds number l e).inputs
  pub whole : ℕ
  pub last : number ≤ whole + 1
  pub rest : List ℕ
  pub written : Appends old new (flat_map (λ line. line) (frame_lines (frames_in whole l e)) ++ rest)

-- the client is done, and the lines of the whole download are written
pub record EndsDone (k : Constants) (before : Inputs) (key : Key) (bytes : List ℕ) (mode : Mode)
    (old new : Option (List ℕ)) : Type 0 where
  pub done : state_at (download_of k key bytes mode) (last_ends (download_of k key bytes mode) before) ≡ Done
  pub written : WritesLines old new (loop_lines (download_of k key bytes mode) before)

-- ---- results of private calls

-- lines were written, by how that ended: all of them; a front if the writer failed; the first of
-- them, perhaps all, if memory ran out
abbrev pub WrittenBy : Option (List ℕ) → Option (List ℕ) → List (List ℕ) → Result (Unit {0}) CmdFault → Type 0
WrittenBy old new lines (Ok done) = WritesLines old new lines
WrittenBy old new lines (Err Write) = WritesFront old new lines
WrittenBy old new lines (Err Memory) = WritesFirst old new lines
WrittenBy old new lines (Err Read) = ⊥
WrittenBy old new lines (Err NeverEnds) = ⊥
WrittenBy old new lines (Err (BadLine number)) = ⊥

-- a round: the node took its input, its lines were written, and if all went well both ends are in
-- the state after it
pub record RoundMade (l : Loop) (e : BothEnds) (node : Node) (client : Standing)
    (waiting : List FrameContent) (old new : Option (List ℕ)) (result : Result (Unit {0}) CmdFault) : Type 0 where
  pub node_stands : Stands l.node node (after_round l e).inputs
  pub written : WrittenBy old new (frame_lines (frames_of l e.waiting e.inputs)) result
  pub ends : OnOk result (EndsStand l (after_round l e) node client waiting)

-- all rounds
pub record RoundsMade (l : Loop) (e : BothEnds) (node : Node) (client : Standing)
    (waiting : List FrameContent) (old new : Option (List ℕ)) (result : Result (Unit {0}) CmdFault) : Type 0 where
  pub some : StandsAfterSome l e node old new
  pub written : WrittenBy old new (frame_lines (frames_in 20000 l e)) result
  pub ends : OnOk result (EndsStand l (rounds 20000 l e) node client waiting)

-- all rounds and the last line, by how that ended
abbrev pub LoopedBy : Loop → BothEnds → Node → Option (List ℕ) → Option (List ℕ) → Result ClientState CmdFault → Type 0
LoopedBy l e node old new (Ok state) =
    (state ≡ state_at l (rounds 20000 l e)) × WritesLines old new (lines_from l e)
    × Stands l.node node (rounds 20000 l e).inputs
LoopedBy l e node old new (Err Write) = WritesFront old new (lines_from l e)
LoopedBy l e node old new (Err Memory) = WritesSome old new (lines_from l e)
LoopedBy l e node old new (Err Read) = ⊥
LoopedBy l e node old new (Err NeverEnds) = ⊥
LoopedBy l e node old new (Err (BadLine number)) = ⊥

-- the same, and how far the node came
pub record Looped (l : Loop) (e : BothEnds) (node : Node) (old new : Option (List ℕ))
    (result : Result ClientState CmdFault) : Type 0 where
  pub some : StandsAfterSome l e node old new
  pub ended : LoopedBy l e node old new result

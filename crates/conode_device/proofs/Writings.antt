-- What a round, all rounds and the loop come to, by how they ended.
use Rattle.std.proofs.Common.{◌≡◌, ℕ, ◌+◌, ◌≤◌, true, List, [], ◌∷◌, take, Option, Result, Ok, Err, sym, subst}
use Rattle.std.specs.Prelude.{IfErr, IfOk, OnOk}
use Rattle.std.specs.List.{flat_map}
use Rattle.std.specs.Io.KnownBytes.{Appends}
use Rattle.co_frame.specs.FrameContent.{FrameContent}
use Rattle.co_node.specs.declared.node.Node.{Node}
use Rattle.co_node.specs.Nodes.{Stands}
use Rattle.co_node_model.specs.Inputs.{Inputs, Framed, Ticked}
use Rattle.co_node_model.specs.Loop.{Loop, BothEnds, after_round, first_ends, frames_in, frames_of, goes_on, round_of, rounds, state_at}
use Rattle.co_sdo_client.specs.Outcomes.{sent}
use Rattle.co_sdo_client.specs.Standing.{Standing, counted}
use Rattle.co_sdo_client.specs.declared.state.ClientState.{ClientState}
use Rattle.conode_io.specs.declared.fault.CmdFault.{CmdFault}
use Rattle.conode_io.specs.declared.fault.CmdFault.TheVariants.{BadLine, Memory, NeverEnds, Read, Write}
use Rattle.conode_io.specs.Written.{AppendsFront, WritesFront, WritesLines, WritesSome}
use Rattle.conode_io.proofs.WriteLemmas.{front_after_lines, front_alone, front_of_more, line_alone, lines_after}
use Rattle.conode_device.specs.Printed.{frame_lines, last_line, lines_from}
use Rattle.conode_device.specs.Standing.{EndsStand, Looped, LoopedBy, RoundMade, RoundsMade, WrittenBy}
use Rattle.conode_device.proofs.AllRounds.{ends_all, lines_all, memory_fails, none_made, one_failed, round_lines, some_later, some_made, write_fails}
use Rattle.conode_device.proofs.LoopLines.{first_all, first_none, some_of_first}
use Rattle.conode_device.proofs.RoundLemmas.{AreOver, rounds_next}

-- what holds anyhow holds of a fault
pub frames_failed : (result : Result (Unit {0}) CmdFault) (P : Type 0) → P → IfErr result (λ fault. P)
frames_failed (Ok done) P holds = tt
frames_failed (Err fault) P holds = holds

-- ---- a round

pub tick_stands : (l : Loop) (e : BothEnds) (node : Node) → e.waiting ≡ [] → Stands l.node node (Ticked ∷ e.inputs) → Stands l.node node (after_round l e).inputs
tick_stands l e node waits stands = subst (λ (ws : List FrameContent). Stands l.node node (round_of l ws e).inputs) (sym waits) stands

pub exchange_stands : (l : Loop) (e : BothEnds) (node : Node) (request : FrameContent) (rest : List FrameContent) → e.waiting ≡ request ∷ rest
    → Stands l.node node (Framed request ∷ e.inputs) → Stands l.node node (after_round l e).inputs
exchange_stands l e node request rest waits stands = subst (λ (ws : List FrameContent). Stands l.node node (round_of l ws e).inputs) (sym waits) stands

pub round_failed : (l : Loop) (e : BothEnds) (node : Node) (client : Standing) (waiting : List FrameContent) (old new : Option (List ℕ)) (result : Result (Unit {0}) CmdFault) (fault : CmdFault)
    → result ≡ Err fault → Stands l.node node (after_round l e).inputs → WrittenBy old new (frame_lines (frames_of l e.waiting e.inputs)) (Err fault)
    → RoundMade l e node client waiting old new result
round_failed l e node client waiting old new result fault is stands written =
    subst (RoundMade l e node client waiting old new) (sym is) (record { node_stands = stands; written = written; ends = tt })

-- ---- all rounds

module _ (n : ℕ) (l : Loop) (e : BothEnds) (node : Node) (client : Standing) (waiting : List FrameContent) (old : Option (List ℕ)) where
  pub rounds_over : (new : Option (List ℕ)) (done : Unit {0}) → n ≤ 20000 → AreOver n 20000 l e → EndsStand l (rounds n l e) node client waiting
      → WritesLines old new (frame_lines (frames_in n l e)) → RoundsMade l e node client waiting old new (Ok done)
  rounds_over new done few over st written = record {
    some = some_made n l e node old new few st.node_stands written;
    written = lines_all old new n l e over written;
    ends = ends_all n l e node client waiting over st;
  }

  pub rounds_failed : (mid new : Option (List ℕ)) (result : Result (Unit {0}) CmdFault) (fault : CmdFault) → n + 1 ≤ 20000 → goes_on l (rounds n l e) ≡ true → result ≡ Err fault
      → WritesLines old mid (frame_lines (frames_in n l e)) → RoundMade l (rounds n l e) node client waiting mid new (Err fault) → RoundsMade l e node client waiting old new result
  rounds_failed mid new result fault few goes is before made = subst (RoundsMade l e node client waiting old new) (sym is) (at_fault fault made)
    where
      stands : Stands l.node node (after_round l (rounds n l e)).inputs → Stands l.node node (rounds (n + 1) l e).inputs
      stands s = subst (λ (ends : BothEnds). Stands l.node node ends.inputs) (sym (rounds_next n l e goes)) s

      at_fault : (fault : CmdFault) → RoundMade l (rounds n l e) node client waiting mid new (Err fault) → RoundsMade l e node client waiting old new (Err fault)
      at_fault Write made = record {
        some = let (bytes, part, grown) = made.written in one_failed n l e node old mid new few (stands made.node_stands) before (bytes, grown);
        written = write_fails old mid new n l e few goes before made.written;
        ends = tt;
      }
      at_fault Memory made = record {
        some = let (number, within, grown) = made.written in one_failed n l e node old mid new few (stands made.node_stands) before (flat_map (λ (line : List ℕ). line) (take number (round_lines n l e)), grown);
        written = memory_fails old mid new n l e few goes before made.written;
        ends = tt;
      }
      at_fault Read made = absurd made.written
      at_fault NeverEnds made = absurd made.written
      at_fault (BadLine number) made = absurd made.written

-- ---- the last line

-- how the client stands after all rounds
abbrev pub last_of : Loop → BothEnds → List ℕ
last_of l e = last_line (state_at l (rounds 20000 l e)) (counted (sent l.call (rounds 20000 l e).events))

module _ (l : Loop) (e : BothEnds) (node : Node) (client : Standing) (waiting : List FrameContent) (old : Option (List ℕ)) where
  pub rounds_broke : (new : Option (List ℕ)) (result : Result ClientState CmdFault) (fault : CmdFault) → result ≡ Err fault → RoundsMade l e node client waiting old new (Err fault) → Looped l e node old new result
  rounds_broke new result fault is made = subst (Looped l e node old new) (sym is) (record { some = made.some; ended = at_fault fault made.written })
    where
      at_fault : (fault : CmdFault) → WrittenBy old new (frame_lines (frames_in 20000 l e)) (Err fault) → LoopedBy l e node old new (Err fault)
      at_fault Write written = front_of_more old new (frame_lines (frames_in 20000 l e)) (last_of l e ∷ []) written
      at_fault Memory written = some_of_first old new (frame_lines (frames_in 20000 l e)) (last_of l e) written
      at_fault Read written = absurd written
      at_fault NeverEnds written = absurd written
      at_fault (BadLine number) written = absurd written

  pub no_last_line : (new : Option (List ℕ)) (result : Result ClientState CmdFault) (done : Unit {0}) → result ≡ Err Memory → RoundsMade l e node client waiting old new (Ok done) → Looped l e node old new result
  no_last_line new result done is made =
      subst (Looped l e node old new) (sym is) (record {
        some = made.some;
        ended = some_of_first old new (frame_lines (frames_in 20000 l e)) (last_of l e) (first_all old new (frame_lines (frames_in 20000 l e)) made.written);
      })

  pub last_line_fails : (mid new : Option (List ℕ)) (result : Result ClientState CmdFault) (done : Unit {0}) (line : List ℕ) → result ≡ Err Write → line ≡ last_of l e → RoundsMade l e node client waiting old mid (Ok done)
      → AppendsFront mid new line → Looped l e node old new result
  last_line_fails mid new result done line is same made (bytes, part, grown) =
      subst (Looped l e node old new) (sym is) (record {
        some = some_later l e node old mid new bytes made.some grown;
        ended = front_after_lines old mid new (frame_lines (frames_in 20000 l e)) (last_of l e ∷ []) made.written
            (front_alone mid new (last_of l e) (subst (AppendsFront mid new) same (bytes, part, grown)));
      })

  pub last_line_made : (mid new : Option (List ℕ)) (state : ClientState) (done : Unit {0}) (line : List ℕ) → state ≡ state_at l (rounds 20000 l e) → line ≡ last_of l e
      → RoundsMade l e node client waiting old mid (Ok done) → Appends mid new line → Looped l e node old new (Ok state)
  last_line_made mid new state done line is same made grown = record {
    some = some_later l e node old mid new line made.some grown;
    ended = (
      is,
      lines_after old mid new (frame_lines (frames_in 20000 l e)) (last_of l e ∷ []) made.written (line_alone mid new (last_of l e) (subst (Appends mid new) same grown)),
      made.ends.node_stands,
    );
  }

-- ---- the whole

pub not_begun : (l : Loop) (before : Inputs) (node : Node) (held : Option (List ℕ)) (result : Result ClientState CmdFault) → result ≡ Err Memory → Stands l.node node before → Looped l (first_ends l before) node held held result
not_begun l before node held result is stands =
    let e = first_ends l before in
    subst (Looped l e node held held) (sym is) (record {
      some = none_made l before node held stands;
      ended = some_of_first held held (frame_lines (frames_in 20000 l e)) (last_of l e) (first_none held (frame_lines (frames_in 20000 l e)));
    })

module _ (l : Loop) (e : BothEnds) (node : Node) (old new : Option (List ℕ)) where
  pub looped_state : (result : Result ClientState CmdFault) → LoopedBy l e node old new result → IfOk result (λ state. state ≡ state_at l (rounds 20000 l e))
  looped_state (Ok state) (is, written, stands) = is
  looped_state (Err fault) h = tt

  pub looped_text : (result : Result ClientState CmdFault) → LoopedBy l e node old new result → OnOk result (WritesLines old new (lines_from l e))
  looped_text (Ok state) (is, written, stands) = written
  looped_text (Err fault) h = tt

  pub looped_node : (result : Result ClientState CmdFault) → LoopedBy l e node old new result → OnOk result (Stands l.node node (rounds 20000 l e).inputs)
  looped_node (Ok state) (is, written, stands) = stands
  looped_node (Err fault) h = tt

  pub looped_write : (result : Result ClientState CmdFault) → LoopedBy l e node old new result → result ≡ Err Write → WritesFront old new (lines_from l e)
  looped_write result h is = subst (LoopedBy l e node old new) is h

  pub looped_memory : (result : Result ClientState CmdFault) → LoopedBy l e node old new result → result ≡ Err Memory → WritesSome old new (lines_from l e)
  looped_memory result h is = subst (LoopedBy l e node old new) is h

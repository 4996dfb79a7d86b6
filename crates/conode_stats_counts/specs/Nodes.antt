-- The nodes of a bus (CiA 301, 7.2.8), by the pre-defined connection set (7.3.3).
use Rattle.std.specs.Prelude.{ℕ, zero, suc, ◌-◌, ◌==◌, nat_lt, ◌&&◌, ◌||◌, if◌then◌else◌, List, [], ◌∷◌, Option, Some, None, length, map, slice_set}
use Rattle.std.specs.List.{slice_index_or}
use Rattle.conode_record.specs.declared.content.Content.{Content}
use Rattle.conode_record.specs.declared.content.Content.TheVariants.{Data, Remote}
use Rattle.conode_record.specs.declared.fields.Identifier.{Identifier}
use Rattle.conode_record.specs.declared.fields.Identifier.TheVariants.{Base}
use Rattle.conode_record.specs.declared.line.Record.{Record}
use Rattle.conode_explain_transfers.specs.declared.track.Track.{Track}
use Rattle.conode_stats_counts.specs.declared.node.Node.{Node}
use Rattle.conode_stats_counts.specs.declared.shown_time.ShownTime.{ShownTime}
use Rattle.conode_stats_counts.specs.declared.sign.Sign.{Sign}
use Rattle.conode_stats_counts.specs.declared.sign.Sign.TheVariants.{Reset, Shows, Exchanges, Asks, Other}
use Rattle.conode_stats_counts.specs.SdoFrames.{request_in, response_in}
use Rattle.conode_stats_counts.specs.NodeCounts.{node_asked, node_commanded, node_of, node_exchanged, node_timed, node_with}
use Rattle.conode_stats_counts.specs.Failures.{channels_of, telling_of}
use Rattle.conode_stats_counts.specs.ShownTimes.{time_of}
use Rattle.conode_stats_counts.specs.States.{NodeEvent, Commanded, Sent, Exchanged, Timed, Asked, state_of, toggle_of}

-- ---- what a frame shows

-- a command to reset, command specifier 129 or 130, to a node, or 0 for all of them: two bytes (CiA 301, 7.2.8.3.1), or more,
-- which some devices take as well
abbrev pub command_in : List ℕ → Sign
command_in (command ∷ node ∷ more) =
    if ((command == 129) || (command == 130)) && nat_lt node 128 then Reset node else Other
command_in _ = Other

-- error control: one byte
abbrev pub control_in : ℕ → List ℕ → Sign
control_in node (byte ∷ []) = Shows node (state_of byte) (toggle_of byte)
control_in node _ = Other

abbrev pub sign_in : ℕ → List ℕ → Sign
sign_in id bytes =
    if id == 0 then command_in bytes
    else (if nat_lt 0x700 id && nat_lt id 0x780 then control_in (id - 0x700) bytes
    else (if nat_lt 0x580 id && nat_lt id 0x600 then response_in (id - 0x580) bytes
    else (if nat_lt 0x600 id && nat_lt id 0x680 then request_in (id - 0x600) bytes else Other)))

-- a guarding request: a remote frame with a node's identifier of error control (CiA 301, 7.2.8.3.2.1)
abbrev pub remote_sign : ℕ → Sign
remote_sign id = if nat_lt 0x700 id && nat_lt id 0x780 then Asks (id - 0x700) else Other

abbrev pub sign_as : Identifier → Content → Sign
sign_as (Base id) (Data bytes) = sign_in id bytes
sign_as (Base id) (Remote length) = remote_sign id
sign_as _ _ = Other

unfoldable pub sign_of : Record → Sign
sign_of frame = sign_as frame.id frame.content

-- ---- the nodes

-- what happens to a node, with one frame more
abbrev pub log_with : ℕ → Sign → ℕ → List NodeEvent → List NodeEvent
log_with node (Reset other) micros log = if (other == 0) || (other == node) then Commanded ∷ log else log
log_with node (Shows other state toggle) micros log = if other == node then Sent state toggle micros ∷ log else log
log_with node (Exchanges other frame) micros log = if other == node then Exchanged frame micros ∷ log else log
log_with node (Asks other) micros log = if other == node then Asked micros ∷ log else log
log_with node Other micros log = log

-- the same of what a transfer shows
abbrev pub log_timed : ℕ → Option ShownTime → ℕ → List NodeEvent → List NodeEvent
log_timed node None micros log = log
log_timed node (Some shown) micros log =
    if shown.node == node then Timed shown.direction shown.time micros ∷ log else log

-- the producer heartbeat time that a frame shows after others
abbrev pub shown_by : List Track → Record → Option ShownTime
shown_by tracks frame = time_of (telling_of tracks frame).told

-- what frames are to a node, the newest first
unfoldable pub node_log : ℕ → List Record → List NodeEvent
node_log node [] = []
node_log node (frame ∷ older) =
    log_timed node (shown_by (channels_of older) frame) frame.micros
    (log_with node (sign_of frame) frame.micros (node_log node older))

-- a list of what a function gives for so many numbers, from a first one on
unfoldable pub table : {A : Type 0} → (ℕ → A) → ℕ → ℕ → List A
table value first zero = []
table value first (suc count) = value first ∷ table value (suc first) count

-- how many numbers there are; 0 is of no node
abbrev pub most_nodes : ℕ
most_nodes = 128

-- what the frames of a bus show of its nodes, by node-ID
unfoldable pub nodes_of : List Record → List Node
nodes_of frames = table (λ node. node_of (node_log node frames)) 0 most_nodes

-- ---- one frame more, as it is counted

abbrev pub new_node : Node
new_node = node_of []

-- one node changed, if it is there
abbrev pub changed_at : ℕ → (Node → Node) → List Node → List Node
changed_at node change nodes =
    if nat_lt node (length nodes) then slice_set nodes node (change (slice_index_or nodes node new_node)) else nodes

unfoldable pub nodes_with : Sign → ℕ → List Node → List Node
nodes_with (Reset node) micros nodes = if node == 0 then map node_commanded nodes else changed_at node node_commanded nodes
nodes_with (Shows node state toggle) micros nodes = changed_at node (node_with state toggle micros) nodes
nodes_with (Exchanges node frame) micros nodes = changed_at node (node_exchanged frame micros) nodes
nodes_with (Asks node) micros nodes = changed_at node (node_asked micros) nodes
nodes_with Other micros nodes = nodes

-- with what a transfer shows
unfoldable pub nodes_timed : Option ShownTime → ℕ → List Node → List Node
nodes_timed None micros nodes = nodes
nodes_timed (Some shown) micros nodes = changed_at shown.node (node_timed shown.direction shown.time micros) nodes

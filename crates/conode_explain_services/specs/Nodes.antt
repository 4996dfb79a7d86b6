-- What the last frames of each node had, by interface and node.
use Rattle.std.specs.Prelude.{ℕ, ◌-◌, ◌==◌, ◌&&◌, nat_lt, Bool, if◌then◌else◌, List, [], ◌∷◌, ◌++◌, length, map, slice_index, slice_set, position, Option, Some, None}
use Rattle.std.specs.List.{slice_index_or}
use Rattle.std.specs.Str.{bytes_eq}
use Rattle.co_frame.specs.FrameContent.{FrameContent}
use Rattle.conode_explain_services.specs.declared.last.Last.{Last}
use Rattle.conode_explain_services.specs.declared.last.Shown.{Shown}
use Rattle.conode_explain_services.specs.declared.last.Shown.TheVariants.{Register, State, Request, Command}
use Rattle.conode_explain_services.specs.declared.guarding.Guarding.TheVariants.{NotSeen}
use Rattle.conode_explain_services.specs.declared.node.Node.{Node}
use Rattle.conode_explain_services.specs.Guardings.{guarding_after, guarding_asked}
use Rattle.conode_explain_services.specs.declared.nmt_state.KnownState.{KnownState}
use Rattle.conode_explain_services.specs.declared.nmt_state.KnownState.TheVariants.{Unknown}
use Rattle.conode_explain_services.specs.NmtStates.{doubtful_command, is_command, is_long_command, of_all, state_after, state_commanded}

-- at most so many nodes are kept: on each of 8 interfaces 127, and node 0, which stands for all
abbrev pub most_nodes : ℕ
most_nodes = 1024

-- nothing came from a node
abbrev pub nothing_seen : Last
nothing_seen = record { register = None; guarding = NotSeen; state = Unknown }

-- the node of a node-ID on an interface
abbrev pub is_of : List ℕ → ℕ → Node → Bool
is_of interface id node = (node.id == id) && bytes_eq node.interface.items interface

abbrev pub new_node : List ℕ → ℕ → Last → Node
new_node interface id last = record { interface = record { items = interface }; id = id; last = last }

abbrev pub place_of : List Node → List ℕ → ℕ → Option ℕ
place_of nodes interface id = position (is_of interface id) nodes

abbrev pub node_at : List Node → ℕ → Node
node_at nodes place = slice_index_or nodes place (new_node [] 0 nothing_seen)

abbrev pub last_at : Option ℕ → List Node → Last
last_at None nodes = nothing_seen
last_at (Some place) nodes = (node_at nodes place).last

-- node 0: what was commanded of all nodes
abbrev pub last_of_all : List Node → List ℕ → Last
last_of_all nodes interface = last_at (place_of nodes interface 0) nodes

-- another node has room
abbrev pub has_room : List Node → Bool
has_room nodes = nat_lt (length nodes) most_nodes

-- of a node that isn't kept: while there is room nothing came from it, and what was commanded of all nodes
-- counts; without room it may have had frames, and nothing is known
abbrev pub last_not_kept : Bool → KnownState → Last
last_not_kept room all = record nothing_seen { state = if room then of_all all else Unknown }

-- what its last frames had
abbrev pub last_found : Option ℕ → List Node → List ℕ → Last
last_found None nodes interface = last_not_kept (has_room nodes) (last_of_all nodes interface).state
last_found (Some place) nodes interface = (node_at nodes place).last

unfoldable pub last_in : List Node → List ℕ → ℕ → Last
last_in nodes interface id = last_found (place_of nodes interface id) nodes interface

-- with a boot-up, which is byte 0, the error register begins anew
abbrev pub register_after : Option ℕ → ℕ → Option ℕ
register_after register byte = if byte == 0 then None else register

-- what they have after a frame that shows this
abbrev pub last_with : Last → Shown → Last
last_with last (Register register) = record last { register = Some register }
last_with last (State byte) = record last {
  register = register_after last.register byte;
  guarding = guarding_after last.guarding byte;
  state = state_after last.state byte;
}
last_with last Request = record last { guarding = guarding_asked last.guarding }
last_with last (Command command) = record last { state = state_commanded last.state command }

-- the nodes after a frame that shows this of one; a new one comes last, where there is room
abbrev pub noted_at : Option ℕ → List Node → List ℕ → ℕ → Shown → List Node
noted_at (Some place) nodes interface id shown =
    slice_set nodes place (record (node_at nodes place) { last = last_with (node_at nodes place).last shown })
noted_at None nodes interface id shown =
    if has_room nodes
    then nodes ++ new_node interface id (last_with (last_of_all nodes interface) shown) ∷ [] else nodes

unfoldable pub noted : List Node → List ℕ → ℕ → Shown → List Node
noted nodes interface id shown = noted_at (place_of nodes interface id) nodes interface id shown

-- ---- which frames count

-- an emergency: eight bytes on 081h to 0FFh (CiA 301, 7.2.7)
abbrev pub is_emergency : FrameContent → Bool
is_emergency frame = (nat_lt 0x080 frame.id && nat_lt frame.id 0x100) && (length frame.bytes == 8)

-- error control: 701h to 77Fh (CiA 301, 7.2.8.3)
abbrev pub is_error_control_id : ℕ → Bool
is_error_control_id id = nat_lt 0x700 id && nat_lt id 0x780

abbrev pub is_error_control : FrameContent → Bool
is_error_control frame = is_error_control_id frame.id && (length frame.bytes == 1)

-- the node-ID in an identifier of one of these
abbrev pub node_of : ℕ → ℕ
node_of id = id - (if nat_lt id 0x100 then 0x080 else 0x700)

-- what the last frames of the node of a frame had; nothing where the identifier is of no such
-- service
unfoldable pub last_of : List Node → List ℕ → ℕ → Last
last_of nodes interface id =
    if nat_lt 0x080 id && nat_lt id 0x100 then last_in nodes interface (id - 0x080)
    else (if is_error_control_id id then last_in nodes interface (id - 0x700) else nothing_seen)

-- ---- commands

-- a node of the interface is commanded
abbrev pub commanded : List ℕ → ℕ → Node → Node
commanded interface command node =
    if bytes_eq node.interface.items interface
    then record node { last = last_with node.last (Command command) } else node

-- all nodes that are kept
abbrev pub all_commanded : List Node → List ℕ → ℕ → List Node
all_commanded nodes interface command = map (commanded interface command) nodes

-- a node, or all: node 0 keeps what was commanded of those from which nothing came
unfoldable pub nodes_commanded : List Node → List ℕ → ℕ → ℕ → List Node
nodes_commanded nodes interface command id =
    if id == 0 then noted (all_commanded nodes interface command) interface 0 (Command command)
    else noted nodes interface id (Command command)

-- what the last frames of the node of a data frame had: of a command, the node that it is for
unfoldable pub last_for : List Node → List ℕ → FrameContent → Last
last_for nodes interface frame =
    if is_command frame then last_in nodes interface (slice_index frame.bytes 1) else last_of nodes interface frame.id

-- the nodes after a data frame on an interface
unfoldable pub nodes_after : List Node → List ℕ → FrameContent → List Node
nodes_after nodes interface frame =
    if is_emergency frame then noted nodes interface (frame.id - 0x080) (Register (slice_index frame.bytes 2))
    else (if is_error_control frame then noted nodes interface (frame.id - 0x700) (State (slice_index frame.bytes 0))
    else (if is_command frame
    then nodes_commanded nodes interface (slice_index frame.bytes 0) (slice_index frame.bytes 1)
    else (if is_long_command frame then nodes_commanded nodes interface doubtful_command (slice_index frame.bytes 1) else nodes)))

-- the nodes after a remote frame
unfoldable pub nodes_asked : List Node → List ℕ → ℕ → List Node
nodes_asked nodes interface id =
    if is_error_control_id id then noted nodes interface (id - 0x700) Request else nodes

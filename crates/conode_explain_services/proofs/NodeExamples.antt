-- What the last frames of nodes had, computed from the definitions.
use Rattle.std.proofs.Common.{◌≡◌, ℕ, ◌-◌, true, false, List, [], ◌∷◌, replicate, refl, Some, None}
use Rattle.std.specs.Prelude.{codes, length, map}
use Rattle.conode_explain_services.specs.declared.guarding.Guarding.{Guarding}
use Rattle.conode_explain_services.specs.declared.guarding.Guarding.TheVariants.{NotSeen, BootedUp, Requested, Answered}
use Rattle.conode_explain_services.specs.declared.last.Last.{Last}
use Rattle.conode_explain_services.specs.declared.nmt_state.KnownState.{KnownState}
use Rattle.conode_explain_services.specs.declared.nmt_state.KnownState.TheVariants.{Unknown, Seen, Commanded, CommandedOfAll}
use Rattle.conode_explain_services.specs.declared.nmt_state.NmtState.TheVariants.{Operational, PreOperational, Stopped}
use Rattle.conode_explain_services.specs.declared.node.Node.{Node}
use Rattle.conode_explain_services.specs.Nodes.{has_room, last_for, last_in, last_not_kept, last_of, most_nodes, new_node, nodes_after, nodes_asked, nodes_commanded, noted, nothing_seen}
use Rattle.conode_explain_services.specs.NmtStates.{state_at, state_commanded}

abbrev after : List Node → List ℕ → ℕ → List ℕ → List Node
after nodes interface id bytes = nodes_after nodes interface (record { id = id; bytes = bytes })

abbrev emergency_of : ℕ → List ℕ
emergency_of register = 0 ∷ 0 ∷ register ∷ 0 ∷ 0 ∷ 0 ∷ 0 ∷ 0 ∷ []

abbrev had : ℕ → Guarding → Last
had register guarding = record { register = Some register; guarding = guarding; state = Unknown }

-- error register 1, and a state
abbrev showed : Guarding → KnownState → Last
showed guarding state = record { register = Some 1; guarding = guarding; state = state }

-- after a boot-up no error register is known
abbrev began : Guarding → Last
began guarding = record { register = None; guarding = guarding; state = Seen PreOperational }

-- two emergencies of one node: its register is the second's; another node and another interface have theirs
abbrev three : List Node
three = after (after (after (after [] (codes "a") 0x085 (emergency_of 0x11)) (codes "a") 0x086 (emergency_of 0x22)) (codes "b") 0x085 (emergency_of 0x33)) (codes "a") 0x085 (emergency_of 0x44)

of_three : three
    ≡ new_node (codes "a") 5 (had 0x44 NotSeen) ∷ new_node (codes "a") 6 (had 0x22 NotSeen) ∷ new_node (codes "b") 5 (had 0x33 NotSeen) ∷ []
unfolding nodes_after last_of last_in noted
of_three = refl

-- what counts for emergencies and for error control, and for nothing else
same_node : last_of three (codes "a") 0x085 ≡ had 0x44 NotSeen
unfolding nodes_after last_of last_in noted
same_node = refl

by_error_control : last_of three (codes "b") 0x705 ≡ had 0x33 NotSeen
unfolding nodes_after last_of last_in noted
by_error_control = refl

another_node : last_of three (codes "b") 0x086 ≡ nothing_seen
unfolding nodes_after last_of last_in noted
another_node = refl

another_service : last_of three (codes "a") 0x185 ≡ nothing_seen
unfolding nodes_after last_of last_in noted
another_service = refl

-- a command is of the node that it is for, one to all of none
abbrev at_frame : ℕ → List ℕ → Last
at_frame id bytes = last_for three (codes "a") (record { id = id; bytes = bytes })

of_command : at_frame 0 (1 ∷ 6 ∷ []) ≡ had 0x22 NotSeen
unfolding last_for nodes_after last_of last_in noted
of_command = refl

of_command_to_all : at_frame 0 (1 ∷ 0 ∷ []) ≡ nothing_seen
unfolding last_for nodes_after last_of last_in noted
of_command_to_all = refl

of_emergency : at_frame 0x085 [] ≡ had 0x44 NotSeen
unfolding last_for nodes_after last_of last_in noted
of_emergency = refl

-- a command to all nodes counts for those from which nothing came, on its interface, until one of their own
abbrev started : List Node
started = after three (codes "a") 0 (1 ∷ 0 ∷ [])

abbrev state_in : List Node → List ℕ → ℕ → KnownState
state_in nodes interface id = (last_for nodes interface (record { id = 0; bytes = 1 ∷ id ∷ [] })).state

of_started : map (state_in started (codes "a")) (5 ∷ 6 ∷ 7 ∷ []) ≡ Commanded Operational ∷ Commanded Operational ∷ CommandedOfAll Operational ∷ []
unfolding last_for nodes_after nodes_commanded last_of last_in noted state_commanded
of_started = refl

on_the_other : map (state_in started (codes "b")) (5 ∷ 7 ∷ []) ≡ Unknown ∷ Unknown ∷ []
unfolding last_for nodes_after nodes_commanded last_of last_in noted state_commanded
on_the_other = refl

-- a node that comes later begins with it; a reset of all ends it
later : map (state_in (after (after started (codes "a") 0x087 (emergency_of 1)) (codes "a") 0 (2 ∷ 8 ∷ [])) (codes "a")) (7 ∷ 8 ∷ 9 ∷ [])
    ≡ Commanded Operational ∷ Commanded Stopped ∷ CommandedOfAll Operational ∷ []
unfolding last_for nodes_after nodes_commanded last_of last_in noted state_commanded
later = refl

reset : map (state_in (after started (codes "a") 0 (130 ∷ 0 ∷ [])) (codes "a")) (5 ∷ 7 ∷ []) ≡ Unknown ∷ Unknown ∷ []
unfolding last_for nodes_after nodes_commanded last_of last_in noted state_commanded
reset = refl

started_again : length (after started (codes "a") 0 (1 ∷ 0 ∷ [])) ≡ 4
unfolding last_for nodes_after nodes_commanded last_of last_in noted state_commanded
started_again = refl

-- a table of one node less than there may be has room, a full one hasn't
abbrev so_many : ℕ → List Node
so_many count = replicate count (new_node (codes "a") 5 (had 0x44 NotSeen))

room : has_room (so_many (most_nodes - 1)) ≡ true
room = refl

no_room : has_room (so_many most_nodes) ≡ false
no_room = refl

-- with room a node that isn't kept has what was commanded of all, without room nothing is known of it
with_room : last_not_kept true (Commanded Stopped) ≡ record { register = None; guarding = NotSeen; state = CommandedOfAll Stopped }
with_room = refl

without_room : last_not_kept false (Commanded Stopped) ≡ nothing_seen
without_room = refl

-- seven bytes, SYNC and TPDOs change nothing
short_emergency : after [] (codes "a") 0x085 (0 ∷ 0 ∷ 1 ∷ 0 ∷ 0 ∷ 0 ∷ 0 ∷ []) ≡ []
unfolding nodes_after last_of last_in noted
short_emergency = refl

sync : after [] (codes "a") 0x080 (emergency_of 1) ≡ []
unfolding nodes_after last_of last_in noted
sync = refl

after_emergencies : after [] (codes "a") 0x100 (emergency_of 1) ≡ []
unfolding nodes_after last_of last_in noted
after_emergencies = refl

-- a request, its answer, another request, its answer; a boot-up, and a request after it; a heartbeat ends it; the register stays
-- until the boot-up
abbrev asked : List Node
asked = nodes_asked (after [] (codes "a") 0x085 (emergency_of 1)) (codes "a") 0x705

of_asked : asked ≡ new_node (codes "a") 5 (had 1 (Requested None)) ∷ []
unfolding nodes_after nodes_asked last_of last_in noted
of_asked = refl

abbrev answered : List Node
answered = after asked (codes "a") 0x705 (0x05 ∷ [])

of_answered : answered ≡ new_node (codes "a") 5 (showed (Answered true) (Seen Operational)) ∷ []
unfolding nodes_after nodes_asked last_of last_in noted state_at
of_answered = refl

asked_again : nodes_asked answered (codes "a") 0x705 ≡ new_node (codes "a") 5 (showed (Requested (Some true)) (Seen Operational)) ∷ []
unfolding nodes_after nodes_asked last_of last_in noted state_at
asked_again = refl

answered_again : after answered (codes "a") 0x705 (0x85 ∷ []) ≡ new_node (codes "a") 5 (showed (Answered false) (Seen Operational)) ∷ []
unfolding nodes_after nodes_asked last_of last_in noted state_at
answered_again = refl

no_state : after answered (codes "a") 0x705 (0x06 ∷ []) ≡ answered
unfolding nodes_after nodes_asked last_of last_in noted state_at
no_state = refl

heartbeat_instead : after answered (codes "a") 0x705 (0x05 ∷ []) ≡ new_node (codes "a") 5 (showed NotSeen (Seen Operational)) ∷ []
unfolding nodes_after nodes_asked last_of last_in noted state_at
heartbeat_instead = refl

abbrev booted_up : List Node
booted_up = after answered (codes "a") 0x705 (0x00 ∷ [])

of_booted_up : booted_up ≡ new_node (codes "a") 5 (began BootedUp) ∷ []
unfolding nodes_after nodes_asked last_of last_in noted state_at
of_booted_up = refl

asked_after_it : nodes_asked booted_up (codes "a") 0x705 ≡ new_node (codes "a") 5 (began (Requested (Some false))) ∷ []
unfolding nodes_after nodes_asked last_of last_in noted state_at
asked_after_it = refl

heartbeat_after_it : after booted_up (codes "a") 0x705 (0x7F ∷ []) ≡ new_node (codes "a") 5 (began NotSeen) ∷ []
unfolding nodes_after nodes_asked last_of last_in noted state_at
heartbeat_after_it = refl

heartbeat : after [] (codes "a") 0x705 (0x05 ∷ []) ≡ new_node (codes "a") 5 (record { register = None; guarding = NotSeen; state = Seen Operational }) ∷ []
unfolding nodes_after last_of last_in noted state_at
heartbeat = refl

-- identifiers beside those of error control
not_asked : nodes_asked [] (codes "a") 0x700 ≡ []
unfolding nodes_asked
not_asked = refl

asked_nobody : nodes_asked [] (codes "a") 0x780 ≡ []
unfolding nodes_asked
asked_nobody = refl

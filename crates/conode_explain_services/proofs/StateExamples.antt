-- The NMT states of nodes, computed from the definitions on both sides of each edge.
use Rattle.std.proofs.Common.{◌≡◌, ℕ, true, false, List, [], ◌∷◌, Some, None, refl, map}
use Rattle.std.specs.Prelude.{codes}
use Rattle.conode_explain_services.specs.declared.nmt_state.NmtState.TheVariants.{Stopped, Operational, PreOperational}
use Rattle.conode_explain_services.specs.declared.nmt_state.KnownState.{KnownState}
use Rattle.conode_explain_services.specs.declared.nmt_state.KnownState.TheVariants.{Unknown, Seen, Commanded, CommandedOfAll}
use Rattle.conode_explain_services.specs.declared.guarding.Guarding.TheVariants.{NotSeen}
use Rattle.conode_explain_services.specs.Nodes.{last_in, new_node, nodes_after, nodes_commanded, noted, nothing_seen}
use Rattle.conode_explain_services.specs.NmtStates.{found_words, is_command, is_long_command, of_all, shown_words, state_after, state_at, state_commanded}
use Rattle.conode_explain_services.specs.Services.{state_words}

states : map state_at (0 ∷ 1 ∷ 3 ∷ 4 ∷ 5 ∷ 6 ∷ 126 ∷ 127 ∷ 128 ∷ 132 ∷ 133 ∷ 255 ∷ [])
    ≡ Some PreOperational ∷ None ∷ None ∷ Some Stopped ∷ Some Operational ∷ None ∷ None ∷ Some PreOperational ∷ None ∷ Some Stopped ∷ Some Operational ∷ Some PreOperational ∷ []
unfolding state_at
states = refl

seen : map (state_after (Commanded Stopped)) (5 ∷ 1 ∷ []) ≡ Seen Operational ∷ Commanded Stopped ∷ []
unfolding state_at
seen = refl

commands : map (state_commanded (Seen Operational)) (1 ∷ 2 ∷ 128 ∷ 129 ∷ 130 ∷ [])
    ≡ Commanded Operational ∷ Commanded Stopped ∷ Commanded PreOperational ∷ Unknown ∷ Unknown ∷ []
unfolding state_commanded
commands = refl

are_commands : map (λ bytes. is_command (record { id = 0; bytes = bytes }))
    ((1 ∷ 5 ∷ []) ∷ (1 ∷ 127 ∷ []) ∷ (1 ∷ 128 ∷ []) ∷ (3 ∷ 5 ∷ []) ∷ (127 ∷ 5 ∷ []) ∷ (131 ∷ 5 ∷ []) ∷ (1 ∷ []) ∷ (1 ∷ 5 ∷ 0 ∷ []) ∷ [])
    ≡ true ∷ true ∷ false ∷ false ∷ false ∷ false ∷ false ∷ false ∷ []
are_commands = refl

-- the same in more than two bytes
are_long : map (λ bytes. is_long_command (record { id = 0; bytes = bytes }))
    ((1 ∷ 5 ∷ 0 ∷ []) ∷ (130 ∷ 127 ∷ 0 ∷ 0 ∷ 0 ∷ 0 ∷ 0 ∷ 0 ∷ []) ∷ (2 ∷ 0 ∷ 1 ∷ []) ∷ (1 ∷ 128 ∷ 0 ∷ []) ∷ (3 ∷ 5 ∷ 0 ∷ []) ∷ (1 ∷ 5 ∷ []) ∷ (1 ∷ []) ∷ [])
    ≡ true ∷ true ∷ true ∷ false ∷ false ∷ false ∷ false ∷ []
are_long = refl

is_long_beside : is_long_command (record { id = 1; bytes = 1 ∷ 5 ∷ 0 ∷ [] }) ≡ false
is_long_beside = refl

found : map found_words (Unknown ∷ Seen PreOperational ∷ Commanded Stopped ∷ CommandedOfAll Stopped ∷ [])
    ≡ codes " (state ?)" ∷ codes " (pre-operational seen)" ∷ codes " (stopped commanded)" ∷ codes " (stopped commanded)" ∷ []
unfolding found_words
found = refl

-- what was seen is no command; the same state; no state
shown : shown_words (Commanded Operational) 127 ∷ shown_words (Commanded Operational) 5 ∷ shown_words (Commanded Operational) 1 ∷ shown_words (Seen Operational) 127 ∷ []
    ≡ codes " (operational commanded)" ∷ [] ∷ [] ∷ [] ∷ []
unfolding shown_words found_words state_at
shown = refl

-- a boot-up after a command to the node itself, and after one to all of a node of which nothing came before; other bytes
boot_up : map (shown_words (Commanded Operational)) (0 ∷ 0x80 ∷ []) ≡ codes " (operational commanded)" ∷ [] ∷ []
unfolding shown_words state_at
boot_up = refl

first_boot_up : map (shown_words (CommandedOfAll Operational)) (0 ∷ 127 ∷ 5 ∷ 1 ∷ []) ≡ [] ∷ codes " (operational commanded)" ∷ [] ∷ [] ∷ []
unfolding shown_words state_at
first_boot_up = refl

for_all : map of_all (Unknown ∷ Seen Stopped ∷ Commanded Stopped ∷ CommandedOfAll Stopped ∷ [])
    ≡ Unknown ∷ Seen Stopped ∷ CommandedOfAll Stopped ∷ CommandedOfAll Stopped ∷ []
for_all = refl

-- a command to all is for the nodes of its interface that are kept, and node 0 stands for others
to_all : nodes_commanded (new_node (codes "a") 5 nothing_seen ∷ new_node (codes "b") 5 nothing_seen ∷ []) (codes "a") 1 0
    ≡ new_node (codes "a") 5 (record { register = None; guarding = NotSeen; state = Commanded Operational }) ∷ new_node (codes "b") 5 nothing_seen
    ∷ new_node (codes "a") 0 (record { register = None; guarding = NotSeen; state = Commanded Operational }) ∷ []
unfolding nodes_commanded state_commanded noted
to_all = refl

to_one : nodes_after [] (codes "a") (record { id = 0; bytes = 2 ∷ 5 ∷ [] })
    ≡ new_node (codes "a") 5 (record { register = None; guarding = NotSeen; state = Commanded Stopped }) ∷ []
unfolding nodes_after nodes_commanded noted last_in state_commanded
to_one = refl

-- after one of more than two bytes nothing is known of its node, or of all
long_to_one : nodes_after (new_node (codes "a") 5 (record { register = None; guarding = NotSeen; state = Commanded Stopped }) ∷ new_node (codes "a") 6 (record { register = None; guarding = NotSeen; state = Seen Stopped }) ∷ [])
    (codes "a") (record { id = 0; bytes = 1 ∷ 5 ∷ 0 ∷ [] })
    ≡ new_node (codes "a") 5 nothing_seen ∷ new_node (codes "a") 6 (record { register = None; guarding = NotSeen; state = Seen Stopped }) ∷ []
unfolding nodes_after nodes_commanded noted last_in state_commanded
long_to_one = refl

long_to_all : nodes_after (new_node (codes "a") 5 (record { register = Some 1; guarding = NotSeen; state = Commanded Stopped }) ∷ new_node (codes "b") 5 (record { register = None; guarding = NotSeen; state = Commanded Stopped }) ∷ [])
    (codes "a") (record { id = 0; bytes = 1 ∷ 0 ∷ 0 ∷ 0 ∷ 0 ∷ 0 ∷ 0 ∷ 0 ∷ [] })
    ≡ new_node (codes "a") 5 (record { register = Some 1; guarding = NotSeen; state = Unknown }) ∷ new_node (codes "b") 5 (record { register = None; guarding = NotSeen; state = Commanded Stopped })
    ∷ new_node (codes "a") 0 nothing_seen ∷ []
unfolding nodes_after nodes_commanded noted last_in state_commanded
long_to_all = refl

-- where its node's last frames had this
abbrev says : KnownState → ℕ → List ℕ → List ℕ
says state id bytes = state_words (record { register = None; guarding = NotSeen; state = state }) (record { id = id; bytes = bytes })

command_to_one : says (Seen Operational) 0 (1 ∷ 5 ∷ []) ≡ codes " (operational seen)"
unfolding state_words found_words
command_to_one = refl

command_to_all : says (Seen Operational) 0 (1 ∷ 0 ∷ []) ≡ []
unfolding state_words
command_to_all = refl

control : map (λ id. says (Commanded Stopped) id (5 ∷ [])) (0x700 ∷ 0x701 ∷ 0x77F ∷ 0x780 ∷ []) ≡ [] ∷ codes " (stopped commanded)" ∷ codes " (stopped commanded)" ∷ [] ∷ []
unfolding state_words shown_words found_words state_at
control = refl

-- SYNC: counters on both sides of each edge; without one; and of another identifier
counters : map (λ counter. says Unknown 0x080 (counter ∷ [])) (0 ∷ 1 ∷ 240 ∷ 241 ∷ 255 ∷ [])
    ≡ codes " (a counter is 1 to 240)" ∷ [] ∷ [] ∷ codes " (a counter is 1 to 240)" ∷ codes " (a counter is 1 to 240)" ∷ []
unfolding state_words
counters = refl

no_counter : says Unknown 0x080 [] ≡ []
unfolding state_words
no_counter = refl

no_sync : says Unknown 0x081 (0 ∷ []) ≡ []
unfolding state_words
no_sync = refl

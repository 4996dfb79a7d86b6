-- The NMT states of nodes, as a recording shows them (CiA 301, 7.3.2.2): by frames of error control,
-- and by commands.
use Rattle.std.specs.Prelude.{ℕ, ◌%◌, ◌==◌, nat_lt, Bool, true, false, ◌&&◌, ◌||◌, if◌then◌else◌, List, [], ◌∷◌, ◌++◌, codes, decimal, length, slice_index, Option, Some, None}
use Rattle.std.specs.Option.{option_map_or}
use Rattle.co_frame.specs.FrameContent.{FrameContent}
use Rattle.conode_text.specs.Filled.{filled}
use Rattle.conode_explain_services.specs.declared.nmt_state.NmtState.{NmtState}
use Rattle.conode_explain_services.specs.declared.nmt_state.NmtState.TheVariants.{Stopped, Operational, PreOperational}
use Rattle.conode_explain_services.specs.declared.nmt_state.KnownState.{KnownState}
use Rattle.conode_explain_services.specs.declared.nmt_state.KnownState.TheVariants.{Unknown, Seen, Commanded, CommandedOfAll}
use Rattle.conode_explain_services.specs.Parts.{words_in}

-- ---- by frames

-- a byte of error control: a boot-up leads to pre-operational; the upper bit is the toggle bit of
-- guarding
unfoldable pub state_at : ℕ → Option NmtState
state_at byte =
    if byte == 0 then Some PreOperational
    else (if byte % 128 == 4 then Some Stopped
    else (if byte % 128 == 5 then Some Operational
    else (if byte % 128 == 127 then Some PreOperational else None)))

abbrev pub seen_or : Option NmtState → KnownState → KnownState
seen_or None known = known
seen_or (Some state) known = Seen state

-- what is known after a byte of error control
abbrev pub state_after : KnownState → ℕ → KnownState
state_after known byte = seen_or (state_at byte) known

-- start, stop, enter pre-operational, reset node, reset communication
abbrev pub is_service : ℕ → Bool
is_service command = (command == 1) || ((command == 2) || (nat_lt 127 command && nat_lt command 131))

-- a command: two bytes, which command and for which node, 0 for all (CiA 301, 7.2.8.3.1)
abbrev pub is_command : FrameContent → Bool
is_command frame =
    (frame.id == 0) && ((length frame.bytes == 2) && (is_service (slice_index frame.bytes 0) && nat_lt (slice_index frame.bytes 1) 128))

-- the same in more than two bytes, which some devices take and others don't
abbrev pub is_long_command : FrameContent → Bool
is_long_command frame =
    (frame.id == 0) && (nat_lt 2 (length frame.bytes) && (is_service (slice_index frame.bytes 0) && nat_lt (slice_index frame.bytes 1) 128))

-- what is known after a command: a reset leads to the boot-up, which isn't due at once
unfoldable pub state_commanded : KnownState → ℕ → KnownState
state_commanded known command =
    if command == 1 then Commanded Operational
    else (if command == 2 then Commanded Stopped
    else (if command == 128 then Commanded PreOperational
    else (if command == 129 then Unknown
    else (if command == 130 then Unknown else known))))

-- after one of more than two bytes nothing is known, as after a reset
abbrev pub doubtful_command : ℕ
doubtful_command = 129

-- of a node of which nothing is kept: what was commanded of all nodes
abbrev pub of_all : KnownState → KnownState
of_all Unknown = Unknown
of_all (Seen state) = Seen state
of_all (Commanded state) = CommandedOfAll state
of_all (CommandedOfAll state) = CommandedOfAll state

-- ---- in words

abbrev pub nmt_words : NmtState → List ℕ
nmt_words Stopped = codes "stopped"
nmt_words Operational = codes "operational"
nmt_words PreOperational = codes "pre-operational"

abbrev pub commanded_words : NmtState → List ℕ
commanded_words state = codes " (" ++ nmt_words state ++ codes " commanded)"

-- what a command finds
unfoldable pub found_words : KnownState → List ℕ
found_words Unknown = codes " (state ?)"
found_words (Seen state) = codes " (" ++ nmt_words state ++ codes " seen)"
found_words (Commanded state) = commanded_words state
found_words (CommandedOfAll state) = commanded_words state

abbrev pub same_state : NmtState → NmtState → Bool
same_state Stopped Stopped = true
same_state Operational Operational = true
same_state PreOperational PreOperational = true
same_state a b = false

-- a frame of error control that shows another state than the commanded one
abbrev pub differs_words : NmtState → NmtState → List ℕ
differs_words commanded shown = if same_state commanded shown then [] else commanded_words commanded

abbrev pub other_words : NmtState → ℕ → List ℕ
other_words commanded byte = option_map_or (differs_words commanded) (state_at byte) []

-- the first boot-up of a node says nothing of a command to all nodes before it, as the node wasn't there yet
unfoldable pub shown_words : KnownState → ℕ → List ℕ
shown_words (Commanded state) byte = other_words state byte
shown_words (CommandedOfAll state) byte = if byte == 0 then [] else other_words state byte
shown_words known byte = []

-- the name of a command
unfoldable pub command_name : ℕ → List ℕ
command_name command =
    words_in ((1, codes "start") ∷ (2, codes "stop") ∷ (128, codes "pre-operational") ∷ (129, codes "reset-node") ∷ (130, codes "reset-communication") ∷ []) command

-- a command of so many bytes, more than two: for all nodes, for one, for any of these
unfoldable pub long_for_all : ℕ → ℕ → List ℕ
long_for_all command count = filled (codes "NMT % all nodes (length % in place of 2)") (command_name command ∷ decimal count ∷ [])

unfoldable pub long_for_one : ℕ → ℕ → ℕ → List ℕ
long_for_one command node count = filled (codes "NMT % % (length % in place of 2)") (command_name command ∷ decimal node ∷ decimal count ∷ [])

abbrev pub long_words : ℕ → ℕ → ℕ → List ℕ
long_words command node count = if node == 0 then long_for_all command count else long_for_one command node count

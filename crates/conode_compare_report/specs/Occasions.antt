-- Which kinds of differences a frame could have shown.
use Rattle.std.specs.Prelude.{ℕ, ◌==◌, nat_lt, nat_le, Bool, true, false, not, ◌&&◌, ◌||◌, if◌then◌else◌, List, [], ◌∷◌, slice_index, Option, Some, None, is_some}
use Rattle.std.specs.Option.{option_map_or}
use Rattle.co_frame.specs.FrameContent.{FrameContent}
use Rattle.co_profile.specs.Indices.{device_type}
use Rattle.co_sheet.specs.Content.{Row}
use Rattle.co_sheet_changes.specs.Names.{row_at}
use Rattle.conode_explain_transfers.specs.declared.channel.Heard.{Heard}
use Rattle.conode_explain_transfers.specs.declared.ended.Ended.{Ended}
use Rattle.conode_explain_transfers.specs.declared.ended.Ending.{Ending}
use Rattle.conode_explain_transfers.specs.declared.ended.Ending.TheVariants.{Done, Aborted}
use Rattle.conode_explain_transfers.specs.declared.kinds.Direction.{Direction}
use Rattle.conode_explain_transfers.specs.declared.kinds.Direction.TheVariants.{Download, Upload}
use Rattle.conode_explain_transfers.specs.declared.kinds.Protocol.{Protocol}
use Rattle.conode_explain_transfers.specs.declared.kinds.Protocol.TheVariants.{Expedited, Block}
use Rattle.conode_explain_transfers.specs.declared.kinds.Side.{Side}
use Rattle.conode_explain_transfers.specs.declared.kinds.Side.TheVariants.{Client, Server}
use Rattle.conode_explain_transfers.specs.declared.kinds.What.{What}
use Rattle.conode_explain_transfers.specs.declared.kinds.What.TheVariants.{Segment, OutOfSequence}
use Rattle.conode_compare_pdos.specs.declared.parameters.Parameters.{Parameters}
use Rattle.conode_compare_values.specs.SheetValues.{has_limits, is_closed, is_held, is_readable, is_stored}
use Rattle.conode_compare_nmt.specs.declared.finding.NmtState.{NmtState}
use Rattle.conode_compare_nmt.specs.declared.finding.NmtState.TheVariants.{Initialising, Stopped}
use Rattle.conode_compare_rules.specs.declared.kind.FrameKind.{FrameKind}
use Rattle.conode_compare_rules.specs.declared.kind.FrameKind.TheVariants.{Control, Emergency, Process, Sdo}
use Rattle.conode_compare_rules.specs.declared.verdict.Verdict.{Verdict}
use Rattle.conode_compare_rules.specs.declared.verdict.Verdict.TheVariants.{Prescribed, Different, Unjudged}
use Rattle.conode_compare_report.specs.declared.before.Before.{Before}
use Rattle.conode_compare_report.specs.declared.before.Role.{Role}
use Rattle.conode_compare_report.specs.declared.before.Role.TheVariants.{Tpdo}
use Rattle.conode_compare_report.specs.declared.kind.Counted.{Counted}
use Rattle.conode_compare_report.specs.declared.kind.Kind.{Kind}
use Rattle.conode_compare_report.specs.declared.kind.Kind.TheVariants.{HeartbeatLate, HeartbeatOff, HeartbeatState, HeartbeatLength, PdoLength, PdoState, PdoSync, PdoInhibit, PdoLate, BootMissing, SecondSender, EmergencyLength, EmergencyState, EmergencyRegister, EmergencyInhibit, NoAnswer, AnswerKey, AnswerForm, AnswerToggle, AnswerSize, AnswerCrc, AnswerState, AbortKey, AbortEarly, ValueLength, ValueConst, ValueHeld, AccessRead, AccessWrite, AccessLimits}
use Rattle.conode_compare_report.specs.Counts.{changed_at, one_more}
use Rattle.conode_compare_report.specs.Kinds.{kind_number}

-- ---- counts by kind

abbrev pub none_of : Kind → Counted
none_of kind = record { kind = kind; found = 0; occasions = 0 }

-- each kind once, in the order of the table
abbrev pub no_counts : List Counted
no_counts =
    none_of HeartbeatLate ∷ none_of HeartbeatOff ∷ none_of HeartbeatState ∷ none_of HeartbeatLength ∷ none_of PdoLength ∷ none_of PdoState
    ∷ none_of PdoSync ∷ none_of PdoInhibit ∷ none_of PdoLate ∷ none_of BootMissing ∷ none_of SecondSender
    ∷ none_of EmergencyLength ∷ none_of EmergencyState ∷ none_of EmergencyRegister ∷ none_of EmergencyInhibit
    ∷ none_of NoAnswer ∷ none_of AnswerKey ∷ none_of AnswerForm ∷ none_of AnswerToggle ∷ none_of AnswerSize
    ∷ none_of AnswerCrc ∷ none_of AnswerState ∷ none_of AbortKey ∷ none_of AbortEarly ∷ none_of ValueLength ∷ none_of ValueConst
    ∷ none_of ValueHeld ∷ none_of AccessRead ∷ none_of AccessWrite ∷ none_of AccessLimits ∷ []

-- a frame could have shown a difference, and shows none
abbrev pub passed : Counted → Counted
passed counted = record counted { occasions = one_more counted.occasions }

-- a difference was found
abbrev pub found : Counted → Counted
found counted = record counted { found = one_more counted.found; occasions = one_more counted.occasions }

unfoldable pub counts_passed : Bool → Kind → List Counted → List Counted
counts_passed could kind counts = if could then changed_at (none_of kind) (kind_number kind) passed counts else counts

-- each of these kinds, where the test holds
abbrev pub all_passed : List (Bool × Kind) → List Counted → List Counted
all_passed [] counts = counts
all_passed (one ∷ rest) counts = all_passed rest (counts_passed one.0 one.1 counts)

unfoldable pub counts_found : Kind → List Counted → List Counted
counts_found kind counts = changed_at (none_of kind) (kind_number kind) found counts

-- ---- frames

-- a time that is known and isn't 0
abbrev pub is_set : Option ℕ → Bool
is_set None = false
is_set (Some time) = not (time == 0)

-- a reset was commanded, and a boot-up is awaited
abbrev pub is_booting : NmtState → Bool
is_booting Initialising = true
is_booting other = false

abbrev pub is_stopped : NmtState → Bool
is_stopped Stopped = true
is_stopped other = false

-- whether the bus was free after this stamp, by when it was free last
abbrev pub is_free_since : Option ℕ → ℕ → Bool
is_free_since stamp free = option_map_or (λ stamp. nat_lt stamp free) stamp false

-- A boot-up, or a heartbeat; only where the bus was free since the last one it can be seen to be late. With bit 7, the toggle bit,
-- it is an answer of node guarding (CiA 301, 7.2.8).
unfoldable pub control_passed : Before → Bool → ℕ → List Counted → List Counted
control_passed before free byte counts =
    let is_boot_up = byte == 0 in
    let is_heartbeat = not is_boot_up && nat_lt byte 0x80 in
    counts_passed (is_boot_up && is_booting before.state) BootMissing
    (counts_passed is_boot_up SecondSender
    (counts_passed ((is_heartbeat && is_set before.entries.period) && free) HeartbeatLate
    (counts_passed is_heartbeat HeartbeatState (counts_passed true HeartbeatLength counts))))

unfoldable pub emergency_passed : Before → List Counted → List Counted
emergency_passed before counts =
    counts_passed (is_set before.entries.inhibit) EmergencyInhibit
    (counts_passed true EmergencyRegister (counts_passed true EmergencyState (counts_passed true EmergencyLength counts)))

-- sent after a SYNC, or by an event (CiA 301, 7.5.2.37)
abbrev pub is_synchronous : Option ℕ → Bool
is_synchronous kind = option_map_or (λ kind. nat_le kind 240) kind false

abbrev pub is_by_event : Option ℕ → Bool
is_by_event kind = option_map_or (λ kind. nat_le 254 kind) kind false

unfoldable pub tpdo_passed : Parameters → List Counted → List Counted
tpdo_passed parameters counts =
    counts_passed (is_by_event parameters.kind && is_set parameters.timer) PdoLate
    (counts_passed (is_by_event parameters.kind && is_set parameters.inhibit) PdoInhibit
    (counts_passed (is_synchronous parameters.kind) PdoSync
    (counts_passed true PdoState (counts_passed (is_some parameters.length) PdoLength counts))))

abbrev pub role_passed : Role → List Counted → List Counted
role_passed (Tpdo number parameters) counts = tpdo_passed parameters counts
role_passed _ counts = counts

-- ---- transfers

-- a segment of a sub-block has no command
abbrev pub is_segment : What → Bool
is_segment (Segment number) = true
is_segment (OutOfSequence number awaited) = true
is_segment other = false

abbrev pub has_segment : Option Heard → Bool
has_segment None = false
has_segment (Some heard) = is_segment heard.what

-- by the command of an answer: a segment, or the confirmation of one; a response to initiate; an
-- abort (CiA 301, 7.2.4.3)
abbrev pub has_toggle : ℕ → Bool
has_toggle command = nat_lt command 0x40

abbrev pub has_key : ℕ → Bool
has_key command =
    (nat_le 0x40 command && nat_lt command 0x80)
    || ((command == 0xA0) || ((command == 0xA4) || ((command == 0xC0) || ((command == 0xC2) || ((command == 0xC4) || (command == 0xC6))))))

abbrev pub is_abort : ℕ → Bool
is_abort command = command == 0x80

abbrev pub command_of : FrameContent → ℕ
command_of frame = slice_index frame.bytes 0

-- an answer with a command; `no-answer` is of initiate requests
unfoldable pub command_passed : ℕ → List Counted → List Counted
command_passed command counts =
    counts_passed (has_key command || is_abort command) NoAnswer
    (counts_passed (is_abort command) AbortKey
    (counts_passed (has_key command) AnswerKey (counts_passed (has_toggle command) AnswerToggle counts)))

unfoldable pub answer_passed : Bool → ℕ → List Counted → List Counted
answer_passed in_sub_block command counts =
    counts_passed true AnswerForm
    (counts_passed true SecondSender (if in_sub_block then counts else command_passed command counts))

-- the first byte
abbrev pub first_byte : List ℕ → ℕ
first_byte [] = 0
first_byte (byte ∷ more) = byte

abbrev pub side_passed : Side → Before → Option Heard → List ℕ → List Counted → List Counted
side_passed Client before heard bytes counts = counts_passed (is_stopped before.state) AnswerState counts
side_passed Server before heard bytes counts = answer_passed (has_segment heard) (first_byte bytes) counts

-- ---- ended transfers

abbrev pub is_done : Ending → Bool
is_done (Done crc) = true
is_done other = false

-- by the device
abbrev pub is_refused : Ending → Bool
is_refused (Aborted Server code) = true
is_refused other = false

abbrev pub is_expedited : Protocol → Bool
is_expedited Expedited = true
is_expedited other = false

abbrev pub is_block : Protocol → Bool
is_block Block = true
is_block other = false

-- an upload that is done shows a value, which is compared where the entry is readable
abbrev pub shows_value : Row → Bool → Bool
shows_value row done = done && is_readable row.access

-- a value that is compared with the data sheet's; modules decide what a modular device's device type is
abbrev pub is_compared : Bool → Row → Bool
is_compared modular row = is_held row && not (modular && (row.key.index == device_type))

-- Whether an entry may be read is compared. Of a modular device its modules decide that, and of 1010h and 1011h CiA 301,
-- where the data sheet has them as write only.
abbrev pub is_access_compared : Bool → Row → Bool
is_access_compared modular row = not modular && (is_readable row.access || not (is_stored row.key.index))

-- An upload; of an entry that the data sheet doesn't have no value is compared.
abbrev pub entry_of_upload : Bool → Option Row → Bool → List Counted → List Counted
entry_of_upload modular None done counts = counts
entry_of_upload modular (Some row) done counts =
    counts_passed (is_access_compared modular row) AccessRead
    (counts_passed (shows_value row done && is_compared modular row) ValueConst (counts_passed (shows_value row done) ValueLength counts))

unfoldable pub upload_passed : Bool → Option Row → Bool → Protocol → List Counted → List Counted
upload_passed modular row done protocol counts =
    counts_passed (done && is_block protocol) AnswerCrc
    (counts_passed (done && not (is_expedited protocol)) AnswerSize
    (entry_of_upload modular row done counts))

abbrev pub download_passed : Option Row → List Counted → List Counted
download_passed None counts = counts
download_passed (Some row) counts =
    counts_passed (has_limits row) AccessLimits (counts_passed (is_closed row) AccessWrite counts)

abbrev pub way_passed : Direction → Bool → Option Row → Bool → Protocol → List Counted → List Counted
way_passed Upload modular row done protocol counts = upload_passed modular row done protocol counts
way_passed Download modular row done protocol counts = download_passed row counts

-- a transfer that was confirmed, or refused by the device
unfoldable pub ended_passed : Bool → List Row → Ended → List Counted → List Counted
ended_passed modular rows ended counts =
    if is_done ended.ending || is_refused ended.ending
    then way_passed ended.direction modular (row_at rows ended.key) (is_done ended.ending) ended.protocol counts
    else counts

abbrev pub ended_in : Option Heard → Option Ended
ended_in None = None
ended_in (Some heard) = heard.ended

abbrev pub if_ended_passed : Bool → List Row → Option Ended → List Counted → List Counted
if_ended_passed modular rows None counts = counts
if_ended_passed modular rows (Some ended) counts = ended_passed modular rows ended counts

-- ---- a frame

-- `free`: the bus was free since the last frame of error control
abbrev pub kind_passed : FrameKind → Before → Bool → Option Heard → List Counted → List Counted
kind_passed (Control byte) before free heard counts = control_passed before free byte counts
kind_passed (Emergency code register) before free heard counts = emergency_passed before counts
kind_passed (Process id length) before free heard counts = role_passed before.role counts
kind_passed (Sdo side frame) before free heard counts = side_passed side before heard frame.bytes counts
kind_passed _ before free heard counts = counts

-- a frame that shows no difference, and isn't unjudged
abbrev pub passes : Option Verdict → Bool
passes None = true
passes (Some Prescribed) = true
passes (Some Different) = false
passes (Some Unjudged) = false

-- the end of a transfer, where it is judged
abbrev pub judged_in : Bool → Option Heard → Option Ended
judged_in judged heard = if judged then ended_in heard else None

unfoldable pub frame_passed : List Row → FrameKind → Before → Bool → Option Heard → Bool → Option Verdict → List Counted → List Counted
frame_passed rows kind before free heard judged verdict counts =
    if passes verdict then if_ended_passed before.modular rows (judged_in judged heard) (kind_passed kind before free heard counts) else counts

-- RPDOs and SYNCs of another length, and the EMCY that our device sends for each: 8210h, 8220h and
-- 8240h (CiA 301, 7.2.7.1 and 7.2.2). Whether one is sent, is left to the device.
use Rattle.std.specs.Prelude.{ℕ, ◌+◌, ◌-◌, ◌/◌, ◌==◌, nat_le, nat_lt, Bool, true, false, not, ◌&&◌, ◌||◌, if◌then◌else◌, List, Option, Some, None, option_map, option_and_then}
use Rattle.std.specs.Option.{option_map_or, option_or}
use Rattle.co_frame.specs.FrameContent.{FrameContent}
use Rattle.co_profile.specs.Keys.{counter_overflow_key}
use Rattle.co_sheet.specs.Content.{Row}
use Rattle.co_value.specs.declared.key.Key.{Key}
use Rattle.co_value.specs.Keys.{same_key}
use Rattle.co_sheet_changes.specs.Names.{row_at}
use Rattle.conode_explain_transfers.specs.declared.kinds.Side.TheVariants.{Client}
use Rattle.conode_explain_transfers.specs.declared.kinds.What.{What}
use Rattle.conode_explain_transfers.specs.declared.kinds.What.TheVariants.{Initiate}
use Rattle.conode_compare_pdos.specs.PdoParameters.{identifier_of, key_of, length_of}
use Rattle.conode_compare_pdos.specs.SheetNumbers.{number_of, preset_at}
use Rattle.conode_compare_pdos.specs.Tpdos.{is_id}
use Rattle.conode_compare_transfers.specs.declared.dialogue.Exchange.{Exchange}
use Rattle.conode_compare_transfers.specs.Breaches.{key_in}
use Rattle.conode_compare_transfers.specs.Dialogues.{asks_to_write, is_timed}
use Rattle.conode_compare_transfers.specs.Times.{is_past}
use Rattle.conode_compare_nmt.specs.declared.finding.NmtState.{NmtState}
use Rattle.conode_compare_nmt.specs.declared.finding.NmtState.TheVariants.{Operational, PreOperational}
use Rattle.conode_compare_rules.specs.declared.kind.FrameKind.{FrameKind}
use Rattle.conode_compare_rules.specs.declared.kind.FrameKind.TheVariants.{Command, CommandToAll, LongCommand, Control, Emergency, Process, Sdo}
use Rattle.conode_compare_nmt.specs.declared.limits.Limits.{Limits}
use Rattle.conode_compare_nmt.specs.declared.limits.Subject.{Subject}
use Rattle.conode_compare_rules.specs.declared.progress.Progress.{Progress}
use Rattle.conode_compare_rules.specs.NmtFrames.{was_asked}
use Rattle.conode_compare_nmt.specs.States.{is_operational}
use Rattle.conode_compare_choices.specs.declared.choice.Choice.{Choice}
use Rattle.conode_compare_choices.specs.declared.choice.Choice.TheVariants.{NoEmergency, OtherEmergency}
use Rattle.conode_compare_choices.specs.declared.length_error.LengthError.{LengthError}
use Rattle.conode_compare_choices.specs.declared.length_error.LengthError.TheVariants.{ShortRpdo, LongRpdo, OddSync}
use Rattle.conode_compare_choices.specs.declared.length_errors.Awaited.{Awaited}
use Rattle.conode_compare_choices.specs.declared.length_errors.LengthErrors.{LengthErrors}
use Rattle.conode_compare_choices.specs.declared.length_errors.Rpdo.{Rpdo}
use Rattle.conode_compare_choices.specs.Phases.{has_presets}

-- the code of its EMCY
abbrev pub code_of : LengthError → ℕ
code_of ShortRpdo = 0x8210
code_of LongRpdo = 0x8220
code_of OddSync = 0x8240

-- ---- which lengths are right

abbrev pub unknown_rpdo : Rpdo
unknown_rpdo = record { id = None; length = None }

abbrev pub no_errors : LengthErrors
no_errors = record {
  sync = None;
  settled = None;
  first = unknown_rpdo;
  second = unknown_rpdo;
  third = unknown_rpdo;
  fourth = unknown_rpdo;
  awaited = None;
}

-- a SYNC has a byte where 1019:00 isn't 0
abbrev pub sync_length_by : ℕ → Option Row → Option ℕ
sync_length_by node None = Some 0
sync_length_by node (Some row) = option_map (λ n. if n == 0 then 0 else 1) (number_of node row.default)

abbrev pub sync_length : List Row → ℕ → Option ℕ
sync_length rows node = sync_length_by node (row_at rows counter_overflow_key)

-- our device takes the types 0 to 240, 254 and 255
abbrev pub is_taken : Option ℕ → Bool
is_taken None = false
is_taken (Some kind) = nat_le kind 240 || ((kind == 254) || (kind == 255))

-- 1400h and 1600h, of the first RPDO
abbrev pub rpdo_id : List Row → ℕ → ℕ → Option ℕ
rpdo_id rows node number =
    if is_taken (preset_at rows node (key_of (0x1400 + number) 2))
    then option_and_then identifier_of (preset_at rows node (key_of (0x1400 + number) 1)) else None

abbrev pub rpdo_of : List Row → ℕ → ℕ → Rpdo
rpdo_of rows node number = record { id = rpdo_id rows node number; length = length_of rows node (0x1600 + number) }

-- after a boot-up, where entries have what the data sheet says; `asked`: a client asked to write an entry right
-- before the boot-up frame
unfoldable pub booted_errors : Subject → Bool → List Row → ℕ → LengthErrors
booted_errors subject asked rows micros =
    if not asked && has_presets subject then record {
      sync = sync_length rows subject.node;
      settled = Some micros;
      first = rpdo_of rows subject.node 0;
      second = rpdo_of rows subject.node 1;
      third = rpdo_of rows subject.node 2;
      fourth = rpdo_of rows subject.node 3;
      awaited = None;
    } else no_errors

-- A download is requested: the parameters of RPDOs and 1019:00 are unknown until the next boot-up.
-- One that restores parameters, or loads a program, may change each entry.
abbrev pub without_rpdos : LengthErrors → LengthErrors
without_rpdos errors = record errors { first = unknown_rpdo; second = unknown_rpdo; third = unknown_rpdo; fourth = unknown_rpdo }

abbrev pub after_request : Key → LengthErrors → LengthErrors
after_request key errors =
    if not (is_timed key) then no_errors
    else (if same_key key counter_overflow_key then record errors { sync = None }
    else (if nat_le 0x1400 key.index && nat_lt key.index 0x1800 then without_rpdos errors else errors))

-- ---- frames of another length

abbrev pub length_error : ℕ → ℕ → Option LengthError
length_error length mapped =
    if nat_lt length mapped then Some ShortRpdo else (if nat_lt mapped length then Some LongRpdo else None)

abbrev pub rpdo_error : ℕ → ℕ → Rpdo → Option LengthError
rpdo_error id length rpdo = if is_id rpdo.id id then option_and_then (length_error length) rpdo.length else None

-- the RPDO with the smallest number takes it
abbrev pub rpdos_error : LengthErrors → ℕ → ℕ → Option LengthError
rpdos_error errors id length =
    option_or (option_or (option_or (rpdo_error id length errors.first) (rpdo_error id length errors.second)) (rpdo_error id length errors.third))
    (rpdo_error id length errors.fourth)

abbrev pub sync_error : ℕ → ℕ → Option LengthError
sync_error length right = if length == right then None else Some OddSync

-- a SYNC while the device isn't stopped, an RPDO while it is operational
abbrev pub error_in : LengthErrors → Progress → ℕ → ℕ → Option LengthError
error_in errors progress id length =
    if is_id progress.pdos.sync id then option_and_then (sync_error length) errors.sync
    else (if is_operational progress.nmt.state then rpdos_error errors id length else None)

-- the tolerance is over since the boot-up and the newest command
abbrev pub is_settled : Limits → LengthErrors → ℕ → Bool
is_settled limits errors micros = option_map_or (λ s. is_past s limits.tolerance micros) errors.settled false

-- an EMCY for the first one is awaited
abbrev pub awaited_with : ℕ → Option Awaited → Option LengthError → Option Awaited
awaited_with micros (Some awaited) error = Some awaited
awaited_with micros None None = None
awaited_with micros None (Some error) = Some (record { error = error; micros = micros })

abbrev pub after_data : Limits → Progress → ℕ → ℕ → ℕ → LengthErrors → LengthErrors
after_data limits progress id length micros errors =
    if is_settled limits errors micros
    then record errors { awaited = awaited_with micros errors.awaited (error_in errors progress id length) } else errors

-- ---- EMCY

-- 8200h, an error of the protocol
abbrev pub protocol_error : ℕ
protocol_error = 0x8200

-- it may stand for the awaited one
abbrev pub answers : ℕ → Awaited → Bool
answers code awaited = (code == code_of awaited.error) || (code == protocol_error)

-- another one may have come before it, and its inhibit time counts
abbrev pub awaited_after : ℕ → ℕ → Option Awaited → Option Awaited
awaited_after code micros None = None
awaited_after code micros (Some awaited) = if answers code awaited then None else Some (record awaited { micros = micros })

abbrev pub emergency_choice : ℕ → Option Awaited → Option Choice
emergency_choice code awaited =
    if code == protocol_error then option_map (λ a. OtherEmergency a.error) awaited else None

-- ---- heartbeats

-- it didn't come within the time of an answer, nor within twice its inhibit time
abbrev pub is_missing : Limits → Option ℕ → ℕ → Awaited → Bool
is_missing limits inhibit micros awaited =
    is_past awaited.micros limits.answer micros && option_map_or (λ time. is_past awaited.micros (time / 5) micros) inhibit false

abbrev pub missing_choice : Limits → Option ℕ → ℕ → Option Awaited → Option Choice
missing_choice limits inhibit micros awaited =
    option_and_then (λ a. if is_missing limits inhibit micros a then Some (NoEmergency a.error (micros - a.micros)) else None) awaited

abbrev pub awaited_still : Limits → Option ℕ → ℕ → Option Awaited → Option Awaited
awaited_still limits inhibit micros awaited =
    option_and_then (λ a. if is_missing limits inhibit micros a then None else Some a) awaited

-- ---- every frame

abbrev pub after_part : FrameContent → What → LengthErrors → LengthErrors
after_part frame Initiate errors = if asks_to_write frame then after_request (key_in frame) errors else errors
after_part frame what errors = errors

abbrev pub after_exchange : FrameContent → Option Exchange → LengthErrors → LengthErrors
after_exchange frame None errors = errors
after_exchange frame (Some exchange) errors = after_part frame exchange.heard.what errors

abbrev pub after_control : Subject → List Row → ℕ → ℕ → Progress → LengthErrors → LengthErrors
after_control subject rows byte micros progress errors =
    if byte == 0 then booted_errors subject (was_asked subject progress) rows micros
    else record errors { awaited = awaited_still subject.limits progress.entries.inhibit micros errors.awaited }

abbrev pub after_kind : Subject → List Row → ℕ → FrameKind → Progress → LengthErrors → LengthErrors
after_kind subject rows micros (Control byte) progress errors = after_control subject rows byte micros progress errors
after_kind subject rows micros (Command service) progress errors = record errors { settled = Some micros }
after_kind subject rows micros (CommandToAll service) progress errors = record errors { settled = Some micros }
after_kind subject rows micros (LongCommand service) progress errors = record errors { settled = Some micros }
after_kind subject rows micros (Process id length) progress errors = after_data subject.limits progress id length micros errors
after_kind subject rows micros (Emergency code register) progress errors = record errors { awaited = awaited_after code micros errors.awaited }
after_kind subject rows micros (Sdo Client frame) progress errors = after_exchange frame progress.exchange errors
after_kind subject rows micros kind progress errors = errors

abbrev pub sends_emergencies : NmtState → Bool
sends_emergencies PreOperational = true
sends_emergencies Operational = true
sends_emergencies state = false

-- an EMCY is awaited while the device sends them, on its default identifier
abbrev pub may_send : Progress → Bool
may_send progress = progress.entries.emergencies && sends_emergencies progress.nmt.state

abbrev pub in_state : Progress → LengthErrors → LengthErrors
in_state progress errors = if may_send progress then errors else record errors { awaited = None }

abbrev pub stamp_of : Progress → ℕ
stamp_of progress = option_map_or (λ micros. micros) progress.newest 0

-- by what the recording shows with it
unfoldable pub errors_with : Subject → List Row → LengthErrors → FrameKind → Progress → LengthErrors
errors_with subject rows errors kind progress = in_state progress (after_kind subject rows (stamp_of progress) kind progress errors)

-- `choice-emcy`: our device sends another EMCY, or one
abbrev pub choice_of : Subject → LengthErrors → ℕ → FrameKind → Progress → Option Choice
choice_of subject errors micros (Emergency code register) progress = emergency_choice code errors.awaited
choice_of subject errors micros (Control byte) progress =
    if byte == 0 then None else missing_choice subject.limits progress.entries.inhibit micros errors.awaited
choice_of subject errors micros kind progress = None

unfoldable pub error_choice : Subject → LengthErrors → FrameKind → Progress → Option Choice
error_choice subject errors kind progress =
    if may_send progress then choice_of subject errors (stamp_of progress) kind progress else None

-- The newest error of a device's error history, 1003:01, and the last EMCY: an error that is stored was
-- signalled by an EMCY (CiA 301, 7.5.2.4).
use Rattle.std.specs.Prelude.{ℕ, ◌%◌, ◌==◌, nat_le, Bool, true, false, not, ◌&&◌, ◌||◌, if◌then◌else◌, Option, Some, None, is_some, option_and_then}
use Rattle.co_frame.specs.FrameContent.{FrameContent}
use Rattle.co_value.specs.declared.key.Key.{Key}
use Rattle.conode_explain_transfers.specs.declared.ended.Ended.{Ended}
use Rattle.conode_explain_transfers.specs.declared.kinds.Direction.{Direction}
use Rattle.conode_explain_transfers.specs.declared.kinds.Direction.TheVariants.{Upload}
use Rattle.conode_explain_transfers.specs.declared.kinds.Side.{Side}
use Rattle.conode_explain_transfers.specs.declared.kinds.Side.TheVariants.{Client, Server}
use Rattle.conode_explain_transfers.specs.declared.kinds.What.{What}
use Rattle.conode_explain_transfers.specs.declared.kinds.What.TheVariants.{Initiate}
use Rattle.conode_compare_transfers.specs.declared.dialogue.Exchange.{Exchange}
use Rattle.conode_compare_transfers.specs.Breaches.{key_in}
use Rattle.conode_compare_transfers.specs.Dialogues.{asks_to_write, is_timed}
use Rattle.conode_compare_transfers.specs.Times.{is_past}
use Rattle.conode_compare_values.specs.SheetValues.{shown_number}
use Rattle.conode_compare_values.specs.HeldNumbers.{is_done}
use Rattle.conode_compare_nmt.specs.declared.entries.Entries.{Entries}
use Rattle.conode_compare_rules.specs.declared.kind.FrameKind.{FrameKind}
use Rattle.conode_compare_rules.specs.declared.kind.FrameKind.TheVariants.{Command, CommandToAll, LongCommand, Control, Emergency, OddEmergency, Sdo}
use Rattle.conode_compare_nmt.specs.declared.limits.Limits.{Limits}
use Rattle.conode_compare_rules.specs.declared.progress.Progress.{Progress}
use Rattle.conode_compare_notes.specs.declared.history.ErrorCode.{ErrorCode}
use Rattle.conode_compare_notes.specs.declared.history.Errors.{Errors}
use Rattle.conode_compare_notes.specs.declared.warning.Warning.{Warning}
use Rattle.conode_compare_notes.specs.declared.warning.Warning.TheVariants.{OtherError}

abbrev pub nothing_signalled : Errors
nothing_signalled = record { signalled = None; shown = None }

-- ---- EMCY

-- An EMCY, where the frame is known to be one. Whether 00xxh, error reset, is stored is the device's
-- choice: after one, and after what may be one, the newest error is unknown.
abbrev pub signalled_by : Bool → ℕ → Option ℕ → Errors
signalled_by known code None = nothing_signalled
signalled_by known code (Some micros) =
    if known && nat_le 0x100 code then record { signalled = Some (record { code = code; micros = micros }); shown = None } else nothing_signalled

-- ---- uploads of 1003:01

abbrev pub is_newest_error : Key → Bool
is_newest_error key = (key.index == 0x1003) && (key.sub == 1)

-- without an inhibit time no EMCY waits
abbrev pub has_no_inhibit : Option ℕ → Bool
has_no_inhibit None = false
has_no_inhibit (Some inhibit) = inhibit == 0

-- no EMCY waits, and the upload was requested later than the tolerance after the last one
abbrev pub is_later : Limits → Entries → ErrorCode → Ended → Bool
is_later limits entries signalled ended =
    (entries.emergencies && has_no_inhibit entries.inhibit) && is_past signalled.micros limits.tolerance ended.begun

-- the code is in the lower 16 bits
abbrev pub other_code : ErrorCode → Ended → ℕ → Option ErrorCode
other_code signalled ended number =
    if number % 65536 == signalled.code then None else Some (record { code = number % 65536; micros = ended.end })

abbrev pub shown_by : Limits → Entries → ErrorCode → Ended → Option ErrorCode
shown_by limits entries signalled ended =
    if is_later limits entries signalled ended then option_and_then (other_code signalled ended) (shown_number 4 ended.first.items) else None

abbrev pub after_upload : Limits → Entries → Errors → Ended → Errors
after_upload limits entries errors ended = record errors { shown = option_and_then (λ s. shown_by limits entries s ended) errors.signalled }

abbrev pub is_upload : Direction → Bool
is_upload Upload = true
is_upload direction = false

abbrev pub shows_error : Bool → Ended → Bool
shows_error certain ended = (certain && is_done ended.ending) && (is_upload ended.direction && is_newest_error ended.key)

abbrev pub errors_ended : Limits → Entries → Errors → Bool → Option Ended → Errors
errors_ended limits entries errors certain None = errors
errors_ended limits entries errors certain (Some ended) =
    if shows_error certain ended then after_upload limits entries errors ended else errors

-- ---- requests

-- An entry from 1003h to 1015h: a write of 0 to 1003:00 deletes the history, 1014:00 and 1015:00 say how
-- EMCY is sent, and those between cost nothing. What stores or restores parameters (1010h, 1011h), or loads
-- a program, may do any of that.
abbrev pub changes_errors : Key → Bool
changes_errors key = (nat_le 0x1003 key.index && nat_le key.index 0x1015) || not (is_timed key)

abbrev pub is_begin : What → Bool
is_begin Initiate = true
is_begin what = false

abbrev pub errors_asked : Side → What → FrameContent → Errors → Errors
errors_asked Client what frame errors =
    if (is_begin what && asks_to_write frame) && changes_errors (key_in frame) then nothing_signalled else errors
errors_asked Server what frame errors = errors

abbrev pub errors_heard : Limits → Entries → Errors → Side → FrameContent → Option Exchange → Errors
errors_heard limits entries errors side frame None = errors
errors_heard limits entries errors side frame (Some exchange) =
    errors_asked side exchange.heard.what frame (errors_ended limits entries errors exchange.certain exchange.heard.ended)

-- ---- the warning

abbrev pub warning_after : Limits → ErrorCode → ErrorCode → ℕ → Option Warning
warning_after limits signalled shown micros =
    if is_past shown.micros limits.answer micros then Some (OtherError shown.code signalled.code) else None

-- by a byte of error control, a boot-up too, later than `--answer` after the upload, while no EMCY came
abbrev pub late_warning : Limits → Option ErrorCode → Option ErrorCode → Option ℕ → Option Warning
late_warning limits (Some signalled) (Some shown) (Some micros) = warning_after limits signalled shown micros
late_warning limits signalled shown micros = None

-- `emcy-history`
abbrev pub error_warning : Limits → Errors → FrameKind → Option ℕ → Option Warning
error_warning limits errors (Control byte) newest = late_warning limits errors.signalled errors.shown newest
error_warning limits errors kind newest = None

-- ---- every frame

-- a boot-up, after which the history may be another one, or a heartbeat that shows stopped: then no EMCY is
-- sent
abbrev pub is_restart : ℕ → Bool
is_restart byte = (byte == 0) || (byte % 128 == 4)

-- Said once. After a command the device may have been stopped; an EMCY of another number of bytes has no
-- code.
unfoldable pub errors_with : Limits → Errors → FrameKind → Progress → Errors
errors_with limits errors (Emergency code register) progress = signalled_by progress.entries.emergencies code progress.newest
errors_with limits errors (OddEmergency length) progress = nothing_signalled
errors_with limits errors (Control byte) progress =
    if is_restart byte || is_some (late_warning limits errors.signalled errors.shown progress.newest) then nothing_signalled else errors
errors_with limits errors (Command service) progress = nothing_signalled
errors_with limits errors (CommandToAll service) progress = nothing_signalled
errors_with limits errors (LongCommand service) progress = nothing_signalled
errors_with limits errors (Sdo side frame) progress = errors_heard limits progress.entries errors side frame progress.exchange
errors_with limits errors kind progress = errors

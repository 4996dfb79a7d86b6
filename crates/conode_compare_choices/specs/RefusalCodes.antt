-- Which abort code a device refuses a request with, where CiA 301 has several that fit
-- (7.2.4.3.17).
use Rattle.std.specs.Prelude.{ℕ, ◌==◌, Bool, not, ◌&&◌, ◌||◌, if◌then◌else◌, List, Option, Some, None, option_and_then}
use Rattle.std.specs.Option.{option_or}
use Rattle.co_frame_aborts.specs.AbortCodes.{above_high_limit, below_low_limit, invalid_value, mapping_too_long, not_in_this_state, not_mappable, not_storable, object_missing, read_only, sub_index_missing, too_long, too_short, write_only}
use Rattle.co_frame.specs.FrameContent.{FrameContent}
use Rattle.co_sheet.specs.Content.{Row}
use Rattle.co_value.specs.declared.key.Key.{Key}
use Rattle.co_value.specs.Keys.{same_key}
use Rattle.co_sheet_changes.specs.Names.{row_at}
use Rattle.conode_explain_transfers.specs.declared.ended.Ended.{Ended}
use Rattle.conode_explain_transfers.specs.declared.kinds.Direction.{Direction}
use Rattle.conode_explain_transfers.specs.declared.kinds.Direction.TheVariants.{Download, Upload}
use Rattle.conode_compare_transfers.specs.declared.dialogue.Asked.{Asked}
use Rattle.conode_compare_transfers.specs.Breaches.{key_in}
use Rattle.conode_compare_values.specs.SheetValues.{is_readable, is_read_only}
use Rattle.conode_compare_choices.specs.declared.choice.Choice.{Choice}
use Rattle.conode_compare_choices.specs.declared.choice.Choice.TheVariants.{Code}
use Rattle.conode_compare_choices.specs.declared.request.Request.{Request}
use Rattle.conode_compare_choices.specs.Requests.{missing_code, request_code}

-- ---- the code by the data sheet

abbrev pub access_code : Row → Direction → Option ℕ
access_code row Upload = if is_readable row.access then None else Some write_only
access_code row Download = if is_read_only row.access then Some read_only else None

abbrev pub code_by : List Row → Ended → Option Row → Option ℕ
code_by rows ended None = Some (missing_code rows ended.key)
code_by rows ended (Some row) = access_code row ended.direction

unfoldable pub sheet_code : List Row → Ended → Option ℕ
sheet_code rows ended = code_by rows ended (row_at rows ended.key)

-- ---- another one that fits

-- an access that isn't supported
abbrev pub unsupported_access : ℕ
unsupported_access = 0x06010000

-- A more general one; where an entry isn't there, a device may not look whether its object is, or may
-- say that the sub-index isn't there of an object that isn't.
abbrev pub other_code : ℕ → ℕ
other_code code =
    if (code == write_only) || (code == read_only) then unsupported_access
    else (if code == object_missing then sub_index_missing else object_missing)

abbrev pub code_with : Key → ℕ → ℕ → Option Choice
code_with key came fitting = if came == other_code fitting then Some (Code key came fitting) else None

abbrev pub entry_choice : List Row → Ended → ℕ → Option Choice
entry_choice rows ended came = option_and_then (code_with ended.key came) (sheet_code rows ended)

-- ---- another one that fits what a download is to write

-- the length of a value doesn't match; it can't be stored because of local control; a mapping isn't
-- compatible with something in the device
abbrev pub other_length : ℕ
other_length = 0x06070010

abbrev pub local_control : ℕ
local_control = 0x08000021

abbrev pub incompatible : ℕ
incompatible = 0x06040047

abbrev pub is_mapping_code : ℕ → Bool
is_mapping_code came = (came == not_mappable) || ((came == mapping_too_long) || (came == incompatible))

-- A more general one of lengths and limits; another reason why a value can't be stored; another code
-- of a mapping that can't be.
abbrev pub also_fits : ℕ → ℕ → Bool
also_fits fitting came =
    if (fitting == too_long) || (fitting == too_short) then came == other_length
    else (if (fitting == above_high_limit) || (fitting == below_low_limit) then came == invalid_value
    else (if fitting == not_storable then (came == local_control) || (came == not_in_this_state)
    else not (came == fitting) && is_mapping_code came))

abbrev pub fitting_with : Key → ℕ → ℕ → Option Choice
fitting_with key came fitting = if also_fits fitting came then Some (Code key came fitting) else None

abbrev pub written_choice : List Row → Request → Key → ℕ → Row → Option Choice
written_choice rows request key came row =
    if is_read_only row.access then None else option_and_then (fitting_with key came) (request_code request rows row)

abbrev pub write_choice : List Row → Request → Ended → ℕ → Option Choice
write_choice rows request ended came = option_and_then (written_choice rows request ended.key came) (row_at rows ended.key)

-- where the abort answers the request of a download
abbrev pub asked_choice : List Row → Request → Option Asked → Ended → ℕ → Option Choice
asked_choice rows request None ended came = None
asked_choice rows request (Some asked) ended came = if asked.writes then write_choice rows request ended came else None

-- ---- an abort

-- `choice-code`: a request is refused with another code that fits; not where the abort is of another
-- entry
unfoldable pub code_choice : List Row → Request → Option Asked → FrameContent → Ended → ℕ → Option Choice
code_choice rows request asked frame ended came =
    if same_key (key_in frame) ended.key
    then option_or (entry_choice rows ended came) (asked_choice rows request asked ended came) else None

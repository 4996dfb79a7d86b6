-- What a device says of its version otherwise than its data sheet (CiA 301, 7.5.2.1, 7.5.2.8 to 7.5.2.10
-- and 7.5.2.21), and codes of EMCY without a class (CiA 301, 7.2.7.1).
use Rattle.std.specs.Prelude.{ℕ, ◌==◌, nat_le, nat_lt, Bool, true, false, not, ◌&&◌, ◌||◌, if◌then◌else◌, List, Option, Some, None, option_and_then}
use Rattle.co_profile.specs.Indices.{device_type, identity}
use Rattle.co_sheet.specs.Content.{Row}
use Rattle.co_sheet.specs.Limits.{Default, text}
use Rattle.co_value.specs.declared.key.Key.{Key}
use Rattle.co_sheet_changes.specs.Names.{row_at}
use Rattle.conode_explain_transfers.specs.declared.ended.Ended.{Ended}
use Rattle.conode_explain_transfers.specs.declared.ended.Ending.{Ending}
use Rattle.conode_explain_transfers.specs.declared.ended.Ending.TheVariants.{Done}
use Rattle.conode_explain_transfers.specs.declared.kinds.Direction.{Direction}
use Rattle.conode_explain_transfers.specs.declared.kinds.Direction.TheVariants.{Upload}
use Rattle.conode_explain_transfers.specs.declared.kinds.Protocol.{Protocol}
use Rattle.conode_explain_transfers.specs.declared.kinds.Protocol.TheVariants.{Expedited}
use Rattle.conode_compare_pdos.specs.SheetNumbers.{number_of as sheet_number}
use Rattle.conode_compare_values.specs.SheetValues.{is_comparable, is_other_text, profile_in, shown_number}
use Rattle.conode_compare_notes.specs.Contents.{is_exact}
use Rattle.conode_compare_notes.specs.declared.warning.Warning.{Warning}
use Rattle.conode_compare_notes.specs.declared.warning.Warning.TheVariants.{OtherRevision, OtherText, OddCode}

-- ---- versions

-- 1018:03, the revision number
abbrev pub is_revision : Key → Bool
is_revision key = (key.index == identity) && (key.sub == 3)

-- 1000:00, the device type
abbrev pub is_type : Key → Bool
is_type key = (key.index == device_type) && (key.sub == 0)

-- 1008h to 100Ah: the device's name, the versions of hardware and software
abbrev pub is_text : Key → Bool
is_text key = (nat_le 0x1008 key.index && nat_le key.index 0x100A) && (key.sub == 0)

-- `other-version`, of a number
abbrev pub revision_with : Key → ℕ → ℕ → Option Warning
revision_with key shown sheet = if shown == sheet then None else Some (OtherRevision key shown sheet)

abbrev pub revision_shown : ℕ → Row → ℕ → Option Warning
revision_shown node row shown = option_and_then (revision_with row.key shown) (sheet_number node row.default)

abbrev pub revision_warning : ℕ → Ended → Row → Option Warning
revision_warning node ended row = option_and_then (revision_shown node row) (shown_number 4 ended.first.items)

-- `other-version`, of the upper word of the device type; of its lower one `value-const` speaks
abbrev pub type_with : Key → ℕ → ℕ → Option Warning
type_with key shown sheet = if profile_in shown == profile_in sheet then revision_with key shown sheet else None

abbrev pub type_shown : ℕ → Row → ℕ → Option Warning
type_shown node row shown = option_and_then (type_with row.key shown) (sheet_number node row.default)

abbrev pub type_warning : ℕ → Ended → Row → Option Warning
type_warning node ended row = option_and_then (type_shown node row) (shown_number 4 ended.first.items)

-- `other-version`, of a text that the data sheet has: it is compared as texts are that never change
abbrev pub shows_other : Ended → List ℕ → Bool
shows_other ended bytes =
    is_comparable bytes && is_other_text (is_exact ended.protocol ended.bytes) bytes ended.first.items

abbrev pub text_warning : Ended → Default → Option Warning
text_warning ended (text bytes) = if shows_other ended bytes then Some (OtherText ended.key) else None
text_warning ended default = None

-- in one frame a text may come without its length
abbrev pub is_expedited : Protocol → Bool
is_expedited Expedited = true
is_expedited protocol = false

-- modules decide what the device type of a modular device is
abbrev pub version_at : ℕ → Bool → Ended → Row → Option Warning
version_at node modular ended row =
    if is_revision row.key then revision_warning node ended row
    else (if is_type row.key && not modular then type_warning node ended row
    else (if is_text row.key && not (is_expedited ended.protocol) then text_warning ended row.default else None))

abbrev pub is_read : Direction → Ending → Bool
is_read Upload (Done crc) = true
is_read direction ending = false

-- of an upload that is done, where no earlier request can be answered; whether the device is modular
abbrev pub version_warning : ℕ → Bool → List Row → Bool → Ended → Option Warning
version_warning node modular rows certain ended =
    if certain && is_read ended.direction ended.ending then option_and_then (version_at node modular ended) (row_at rows ended.key) else None

-- ---- codes of EMCY

-- 00xxh; 1xxxh to 9xxxh, with those of device profiles; Fxxxh
abbrev pub has_class : ℕ → Bool
has_class code = nat_lt code 0x100 || ((nat_le 0x1000 code && nat_lt code 0xA000) || nat_le 0xF000 code)

-- `emcy-code`, where the frame is known to be an EMCY of the device
abbrev pub code_warning : Bool → ℕ → ℕ → Option Warning
code_warning emergencies code register = if emergencies && not (has_class code) then Some (OddCode code register) else None

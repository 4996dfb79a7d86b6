-- Why our own server would have refused a download that a device acknowledged, by its data sheet: the
-- first of the rules that applies (CiA 301, 7.2.4.3.17). The device has decided, so that the download
-- counts all the same.
use Rattle.std.specs.Prelude.{ℕ, ◌==◌, Bool, true, false, ◌&&◌, ◌||◌, if◌then◌else◌, ℤ, int_lt, pos, List, [], ◌∷◌, length, take, codes, Option, Some, None, option_and_then}
use Rattle.std.specs.Option.{option_map_or}
use Rattle.co_value.specs.Numbers.{number_of}
use Rattle.co_value.specs.declared.data_type.DataType.{DataType}
use Rattle.co_value.specs.Types.{is_boolean, width_of}
use Rattle.co_profile.specs.declared.access.Access.{Access}
use Rattle.co_profile.specs.declared.access.Access.TheVariants.{Ro, Constant}
use Rattle.co_profile.specs.Indices.{is_within, sdo_server}
use Rattle.co_sheet.specs.Content.{Row}
use Rattle.co_sheet_changes.specs.Names.{Names, are_for, entry_of}
use Rattle.conode_text.specs.Filled.{filled}
use Rattle.conode_explain_transfers.specs.declared.ended.Ended.{Ended}
use Rattle.conode_explain_transfers.specs.declared.kinds.Direction.{Direction}
use Rattle.conode_explain_transfers.specs.declared.kinds.Direction.TheVariants.{Download}
use Rattle.conode_explain_forms.specs.declared.refusal.Refusal.{Refusal}
use Rattle.conode_explain_forms.specs.declared.refusal.Refusal.TheVariants.{NotInSheet, ReadOnly, OtherLength, AboveHighLimit, BelowLowLimit, NotBoolean}
use Rattle.conode_explain_forms.specs.Fields.{is_done, is_expedited}

-- ---- the rules

abbrev pub is_read_only : Access → Bool
is_read_only Ro = true
is_read_only Constant = true
is_read_only other = false

-- the parameters of SDO servers, 1200h to 127Fh, don't change while a device of ours runs
abbrev pub is_unwritable : Row → Bool
is_unwritable row = is_read_only row.access || is_within sdo_server row.key.index

abbrev pub is_above : Option ℤ → ℤ → Bool
is_above limit value = option_map_or (λ high. int_lt high value) limit false

abbrev pub is_below : Option ℤ → ℤ → Bool
is_below limit value = option_map_or (λ low. int_lt value low) limit false

-- a BOOLEAN is 0 or 1 (CiA 301, 7.1.4.3), though its byte has room for more
abbrev pub is_no_boolean : DataType → ℤ → Bool
is_no_boolean t value = is_boolean t && int_lt (pos 1) value

-- the limits of the sheet come before those of the type
abbrev pub limit_refusal : Row → ℤ → Option Refusal
limit_refusal row value =
    if is_above row.high value then Some AboveHighLimit
    else (if is_below row.low value then Some BelowLowLimit
    else (if is_no_boolean row.data_type value then Some NotBoolean else None))

-- a number of a type with this width
abbrev pub number_refusal : Row → List ℕ → ℕ → Option Refusal
number_refusal row bytes width =
    if length bytes == width then limit_refusal row (number_of row.data_type bytes) else Some OtherLength

-- the bytes that count: an expedited download of four may not have indicated its size, and then has
-- as many as the type
abbrev pub number_bytes : Ended → ℕ → List ℕ
number_bytes e width =
    if is_expedited e.protocol && (e.bytes == 4) then take width e.first.items else e.first.items

-- a string or a domain may have any number of bytes, and has no limits
abbrev pub value_refusal : Row → Ended → Option Refusal
value_refusal row e = option_and_then (λ width. number_refusal row (number_bytes e width) width) (width_of row.data_type)

abbrev pub row_refusal : Row → Ended → Option Refusal
row_refusal row e = if is_unwritable row then Some ReadOnly else value_refusal row e

-- by the entry's row in the sheet
abbrev pub entry_refusal : Option Row → Ended → Option Refusal
entry_refusal None e = Some NotInSheet
entry_refusal (Some row) e = row_refusal row e

-- ---- which downloads have a note

abbrev pub is_download : Direction → Bool
is_download Download = true
is_download other = false

abbrev pub has_sheet : Names → ℕ → Bool
has_sheet names node = option_map_or (λ sheet. are_for names.only node) names.sheet false

-- one that is done, of a node with a data sheet
unfoldable pub refusal_of : Names → ℕ → Ended → Option Refusal
refusal_of names node e =
    if is_done e.ending && (is_download e.direction && has_sheet names node)
    then entry_refusal (entry_of names node e.key) e else None

-- ---- words

abbrev pub refusal_words : Refusal → List ℕ
refusal_words NotInSheet = codes "not in the data sheet"
refusal_words ReadOnly = codes "read only"
refusal_words OtherLength = codes "other length than the type's"
refusal_words AboveHighLimit = codes "above the high limit"
refusal_words BelowLowLimit = codes "below the low limit"
refusal_words NotBoolean = codes "a BOOLEAN is 0 or 1"

abbrev pub note_text : List ℕ → List ℕ
note_text words = filled (codes " (our rules refuse: %)") (words ∷ [])

abbrev pub refusal_note : Names → ℕ → Ended → List ℕ
refusal_note names node e = option_map_or (λ refusal. note_text (refusal_words refusal)) (refusal_of names node e) []

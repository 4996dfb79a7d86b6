-- What only `--force` changes: limits against their type, mappings at fault, and a SYNC that the
-- device would produce (CiA 306, object description; CiA 301, 7.5.2.5, 7.5.2.36 and 7.5.2.38).
use Rattle.std.specs.Prelude.{ℕ, ◌-◌, ◌%◌, ◌/◌, ◌^◌, ℤ, Bool, true, false, ◌&&◌, not, ◌==◌, nat_lt, if◌then◌else◌, List, ◌∷◌, ◌++◌, codes, Option, Some, None, option_map, option_and_then, Result, Ok, Err}
use Rattle.std.specs.List.{list_any}
use Rattle.std.specs.Option.{option_map_or}
use Rattle.std.specs.Result.{result_ok}
use Rattle.co_text.specs.Printed.{digits_text}
use Rattle.co_value.specs.declared.data_type.DataType.{DataType}
use Rattle.co_sheet_text.specs.declared.numeral.NumeralFault.{NumeralFault}
use Rattle.co_sheet_text.specs.declared.numeral.NumeralFault.TheVariants.{Malformed, Ambiguous}
use Rattle.co_sheet_text.specs.declared.section_kind.SectionKind.{SectionKind}
use Rattle.co_sheet_text.specs.declared.section_kind.SectionKind.TheVariants.{Object, SubIndex}
use Rattle.co_sheet_text.specs.Numerals.{unsigned_number}
use Rattle.co_sheet.specs.Limits.{is_in_type, is_numeric, number_at_type}
use Rattle.co_sheet_changes.specs.declared.change.ChangeKind.TheVariants.{ForcedLimit, ForcedMapping, ForcedSync}
use Rattle.co_sheet_changes.specs.Extended.{is_extended_limit}
use Rattle.co_sheet_changes.specs.Groups.{Group}
use Rattle.co_sheet_changes.specs.Limits.{data_type_of, has_unsigned_limits, is_limit, is_low, is_preset, is_zero}
use Rattle.co_sheet_changes.specs.Pieces.{Mended, mended, assigned}

-- the data type to which the limits of a section must belong; limits of the unsigned type have a
-- rule of their own
abbrev pub limited_type : Group → Option DataType
limited_type g = if has_unsigned_limits g then None else data_type_of g

-- a limit that is no number of its type: a text that is none, or a number out of its range
abbrev pub is_against : DataType → Result ℤ NumeralFault → Bool
is_against t (Ok value) = not (is_in_type t value)
is_against t (Err Malformed) = true
is_against t (Err Ambiguous) = false

abbrev pub is_forced_at : DataType → List ℕ → Bool
is_forced_at t value = is_numeric t && is_against t (number_at_type t value)

-- so has one with its sign extended
abbrev pub is_forced_of : Bool → DataType → List ℕ → List ℕ → Bool
is_forced_of extended_low t name value =
    is_forced_at t value && not (is_extended_limit extended_low t name value)

abbrev pub is_forced_limit : Bool → Option DataType → List ℕ → List ℕ → Bool
is_forced_limit extended_low t name value =
    is_limit name && option_map_or (λ type. is_forced_of extended_low type name value) t false

-- it becomes a comment
abbrev pub as_comment : List ℕ → List ℕ → List ℕ
as_comment name value = 59 ∷ assigned name value

-- the word of 1005h without bit 30, by which the device would produce the SYNC
abbrev pub without_bit_30 : ℕ → Option (List ℕ)
without_bit_30 word =
    if nat_lt word (2 ^ 32) && (word / 2 ^ 30 % 2 == 1)
    then Some (codes "0x" ++ digits_text 16 8 (word - 2 ^ 30)) else None

abbrev pub sync_change : List ℕ → List ℕ → Option Mended
sync_change name value =
    option_map (λ v. mended ForcedSync (assigned name v))
    (option_and_then without_bit_30 (result_ok (unsigned_number value)))

-- the number of entries of a mapping at fault becomes 0, and a LowLimit above it a comment
abbrev pub is_count : List ℕ → List ℕ → Bool
is_count name value = is_preset name && not (is_zero value)

abbrev pub is_above_zero : List ℕ → List ℕ → Bool
is_above_zero name value = is_low name && not (is_zero value)

abbrev pub mapping_change : Bool → List ℕ → List ℕ → Option Mended
mapping_change is_at_fault name value =
    if is_at_fault && is_count name value then Some (mended ForcedMapping (assigned name (codes "0")))
    else if is_at_fault && is_above_zero name value
    then Some (mended ForcedMapping (as_comment name value))
    else None

abbrev pub is_among : List ℕ → ℕ → Bool
is_among mappings index = list_any (λ m. m == index) mappings

abbrev pub is_mapping_of : List ℕ → SectionKind → Bool
is_mapping_of mappings (SubIndex key) = (key.sub == 0) && is_among mappings key.index
is_mapping_of mappings kind = false

abbrev pub is_sync : SectionKind → Bool
is_sync (Object index) = index == 0x1005
is_sync kind = false

abbrev pub forced_change : List ℕ → SectionKind → Bool → Option DataType → List ℕ → List ℕ
    → Option Mended
forced_change mappings kind extended_low t name value =
    if is_forced_limit extended_low t name value
    then Some (mended ForcedLimit (as_comment name value))
    else if is_sync kind && is_preset name then sync_change name value
    else mapping_change (is_mapping_of mappings kind) name value

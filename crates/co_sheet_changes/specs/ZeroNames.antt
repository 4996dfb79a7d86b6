-- Where a number may have a leading zero (CiA 306, object description, object lists).
use Rattle.std.specs.Prelude.{ℕ, Bool, false, ◌&&◌, ◌||◌, ◌==◌, if◌then◌else◌, List, [], ◌∷◌, codes, Option, Some, None, option_map, unwrap_or}
use Rattle.std.specs.List.{list_all}
use Rattle.std.specs.Option.{option_map_or}
use Rattle.std.specs.Result.{result_ok}
use Rattle.std.specs.Char.{is_digit}
use Rattle.co_sheet_text.specs.declared.section_kind.SectionKind.{SectionKind}
use Rattle.co_sheet_text.specs.declared.section_kind.SectionKind.TheVariants.{Object, SubIndex}
use Rattle.co_sheet_text.specs.Names.{is_list, is_read_name}
use Rattle.co_sheet_text.specs.Numerals.{unsigned_number}
use Rattle.co_sheet_text.specs.Text.{same_name}
use Rattle.co_sheet.specs.Entries.{data_type_with}
use Rattle.co_sheet.specs.Limits.{is_numeric}
use Rattle.co_sheet.specs.ObjectLists.{is_one_of}
use Rattle.co_sheet_changes.specs.declared.change.ChangeKind.TheVariants.{LeadingZero}
use Rattle.co_sheet_changes.specs.Groups.{Group, value_in}
use Rattle.co_sheet_changes.specs.Limits.{is_limit, is_preset}
use Rattle.co_sheet_changes.specs.Pieces.{Mended, mended, assigned}
use Rattle.co_sheet_changes.specs.declared.request.LeadingZeros.{LeadingZeros}
use Rattle.co_sheet_changes.specs.Zeros.{value_anew}

-- ---- where it is

-- what is a number in the section of an object or a sub-index, whatever its type is
abbrev pub is_type_name : List ℕ → Bool
is_type_name name = same_name name (codes "ObjectType") || same_name name (codes "DataType")

abbrev pub is_count_name : List ℕ → Bool
is_count_name name = same_name name (codes "SubNumber") || same_name name (codes "CompactSubObj")

abbrev pub is_number_name : List ℕ → Bool
is_number_name name =
    is_type_name name || (same_name name (codes "PDOMapping") || is_count_name name)

-- a type whose values are numbers; times are too
abbrev pub is_number_code : ℕ → Bool
is_number_code code = option_map_or is_numeric (data_type_with code) (is_one_of (0x0C ∷ 0x0D ∷ []) (Some code))

abbrev pub is_number_type : LeadingZeros → List ℕ → Bool
is_number_type zeros value =
    option_map_or is_number_code
    (result_ok (unsigned_number (unwrap_or (value_anew zeros value) value))) false

-- sub-index 0 needs no DataType: it is an UNSIGNED8
abbrev pub is_first : SectionKind → Bool
is_first (SubIndex key) = key.sub == 0
is_first kind = false

-- whether the values of a section's entry are numbers
abbrev pub has_numbers : LeadingZeros → Group → Bool
has_numbers zeros g =
    option_map_or (is_number_type zeros) (value_in (codes "DataType") g.body) (is_first g.kind)

abbrev pub is_object_number : Bool → List ℕ → Bool
is_object_number numbers name =
    is_number_name name || (numbers && (is_limit name || is_preset name))

-- whether a name's value is a number in a section; the keys of a list may have leading zeros too
abbrev pub is_number_of : SectionKind → Bool → List ℕ → Bool
is_number_of (Object index) numbers name = is_object_number numbers name
is_number_of (SubIndex key) numbers name = is_object_number numbers name
is_number_of kind numbers name =
    is_read_name kind name || (is_list kind && list_all (λ c. is_digit c 10) name)

abbrev pub zero_change : LeadingZeros → SectionKind → Bool → List ℕ → List ℕ → Option Mended
zero_change zeros kind numbers name value =
    if is_number_of kind numbers name
    then option_map (λ v. mended LeadingZero (assigned name v)) (value_anew zeros value)
    else None

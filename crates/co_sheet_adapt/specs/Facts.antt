-- What a section says of its entry, as far as changes of its lines depend on it (CiA 306, object
-- description, compact storage).
use Rattle.std.specs.Prelude.{ℕ, Bool, true, false, ◌&&◌, ◌||◌, nat_le, if◌then◌else◌, List, codes, Option, Some, None, is_some, option_and_then}
use Rattle.std.specs.Option.{option_map_or}
use Rattle.std.specs.Result.{result_ok}
use Rattle.co_sheet_text.specs.declared.section_kind.SectionKind.{SectionKind}
use Rattle.co_sheet_text.specs.declared.section_kind.SectionKind.TheVariants.{Object, SubIndex}
use Rattle.co_sheet_text.specs.Numerals.{unsigned_number}
use Rattle.co_sheet.specs.ObjectLists.{is_one_of}
use Rattle.co_sheet.specs.Entries.{single_codes, compound_codes}
use Rattle.co_sheet_adapt.specs.declared.left_out.LeftOut.{LeftOut}
use Rattle.co_sheet_adapt.specs.declared.facts.Facts.{Facts}
use Rattle.co_sheet_changes.specs.Extended.{has_extended_low}
use Rattle.co_sheet_changes.specs.Limits.{data_type_of, has_unsigned_limits}
use Rattle.co_sheet_changes.specs.Groups.{Group, value_in, number_in_group}
use Rattle.co_sheet_adapt.specs.LeftOut.{left_out_with, value_in_place}

-- the code of the object type, 7 where there is none
abbrev pub object_code : Group → Option ℕ
object_code g =
    option_map_or (λ v. result_ok (unsigned_number v)) (value_in (codes "ObjectType") g.body) (Some 7)

-- an ARRAY or a RECORD in compact form has 1 to 254 sub-indices after sub-index 0
abbrev pub count_of : ℕ → Option ℕ
count_of n = if nat_le 1 n && nat_le n 254 then Some n else None

abbrev pub is_object : SectionKind → Bool
is_object (Object index) = true
is_object kind = false

abbrev pub compact_count : Group → Option ℕ
compact_count g =
    if is_object g.kind && is_one_of compound_codes (object_code g)
    then option_and_then count_of (number_in_group (codes "CompactSubObj") g)
    else None

-- an entry, or all sub-indices of an object in compact form
abbrev pub is_entry_of : SectionKind → Bool → Bool
is_entry_of (SubIndex key) is = true
is_entry_of (Object index) is = is
is_entry_of kind is = false

abbrev pub is_entry : Group → Bool
is_entry g =
    is_entry_of g.kind (is_one_of single_codes (object_code g) || is_some (compact_count g))

-- a type that is left out, where its default and its value can be written at the type that stands
-- for it
abbrev pub converts : LeftOut → Option (List ℕ) → Bool
converts t value = option_map_or (λ v. is_some (value_in_place t v)) value true

abbrev pub is_convertible : LeftOut → Group → Bool
is_convertible t g =
    converts t (value_in (codes "DefaultValue") g.body)
    && converts t (value_in (codes "ParameterValue") g.body)

abbrev pub if_convertible : Group → LeftOut → Option LeftOut
if_convertible g t = if is_convertible t g then Some t else None

abbrev pub left_out_of : Group → Option LeftOut
left_out_of g =
    option_and_then (if_convertible g)
    (option_and_then left_out_with (number_in_group (codes "DataType") g))

abbrev pub facts_of : Group → Facts
facts_of g = record {
  compact = compact_count g;
  is_entry = is_entry g;
  left_out = left_out_of g;
  data_type = data_type_of g;
  has_unsigned_limits = has_unsigned_limits g;
  has_extended_low = has_extended_low g;
}

-- All that each check finds (CiA 306, object lists, object description). What a check looks for is
-- defined with the checks of a sheet; here nothing is found that rests on a value at fault.
use Rattle.std.specs.Prelude.{ℕ, Bool, true, false, not, ◌&&◌, List, [], ◌∷◌, ◌++◌, map, flat_map, codes, Some}
use Rattle.std.specs.Option.{option_map_or}
use Rattle.co_value.specs.declared.data_type.DataType.{DataType}
use Rattle.co_sheet_text.specs.declared.section_kind.SectionKind.TheVariants.{DeviceInfo}
use Rattle.co_sheet_rows.specs.declared.fault.FaultKind.TheVariants.{BadLimits, BadDefault, BadList}
use Rattle.co_sheet_rows.specs.declared.fault.SheetFault.{SheetFault}
use Rattle.co_sheet_text.specs.Sections.{Property, TextSection, section_at}
use Rattle.co_sheet.specs.ObjectLists.{object_lists, listings, count_of}
use Rattle.co_sheet.specs.Entries.{single_codes, compound_codes, ListedObject, Entry, data_type_of}
use Rattle.co_sheet.specs.Limits.{Default, number, pairs, at_most, is_in_type, is_pairs, stated_default, low_limit}
use Rattle.co_sheet.specs.Checks.{fault_if, at_key, missing_lists, unread_list_numbers, is_bad_list, listed_twice, missing_section, sub_indices_checked, unread_object_numbers, other_object_type, compact_form, missing_sub_index_0, missing_key, unread_entry_numbers, bad_type, left_out_type, bad_access, in_numeric, unread_limits, limit_outside, missing_mandatory}
use Rattle.co_sheet_faults.specs.Soundness.{unless, is_unread_at, are_lists_at_fault, is_index, is_sound, sound_objects, sound_entries, is_compact, is_object_type_at_fault, is_data_type_at_fault, is_high_at_fault, sound_low, sound_high}

-- ---- the object lists; checks 1 and 2 rest on nothing

-- check 3 rests on SupportedObjects
abbrev pub bad_list : TextSection → List SheetFault
bad_list s = fault_if (option_map_or (is_bad_list s) (count_of s) true) BadList s.line

abbrev pub all_bad_lists : List TextSection → List SheetFault
all_bad_lists sections =
    flat_map (λ s. unless (is_unread_at (codes "SupportedObjects") s) (bad_list s))
    (object_lists sections)

-- check 4 rests on the value that names the index
abbrev pub all_listed_twice : List TextSection → List SheetFault
all_listed_twice sections =
    flat_map (λ l. unless (not (is_index l.index)) (listed_twice sections l)) (listings sections)

-- check 5 too, and applies to the first line that names the index
abbrev pub all_missing_sections : List TextSection → List SheetFault
all_missing_sections sections =
    flat_map (λ l. unless (not (is_sound sections l)) (missing_section sections l))
    (listings sections)

-- ---- objects

-- a check of each object that is named
abbrev pub of_sound_objects : (List TextSection → ListedObject → List SheetFault)
    → List TextSection → List SheetFault
of_sound_objects check sections = flat_map (check sections) (sound_objects sections)

-- check 7 is of an ObjectType that can be read
abbrev pub object_type_found : List ℕ → TextSection → List SheetFault
object_type_found allowed section =
    unless (is_unread_at (codes "ObjectType") section) (other_object_type allowed section)

abbrev pub object_types_found : List TextSection → ListedObject → List SheetFault
object_types_found sections o =
    object_type_found (single_codes ++ compound_codes) o.section
    ++ flat_map (λ e. object_type_found single_codes e.section) (sub_indices_checked sections o)

-- check 8
abbrev pub all_compact_forms : List TextSection → List SheetFault
all_compact_forms sections =
    option_map_or (at_key compact_form (codes "CompactPDO")) (section_at DeviceInfo sections) []
    ++ flat_map (λ o. at_key compact_form (codes "CompactSubObj") o.section)
    (sound_objects sections)

-- check 9 rests on CompactSubObj
abbrev pub sub_index_0_found : List TextSection → ListedObject → List SheetFault
sub_index_0_found sections o = unless (is_compact o.section) (missing_sub_index_0 sections o)

-- ---- entries

-- check 10 rests on ObjectType
abbrev pub key_found : Entry → List SheetFault
key_found e = unless (is_object_type_at_fault e) (missing_key e)

-- checks 13 and 15 to 17 rest on DataType
abbrev pub of_sound_type : (Entry → List SheetFault) → Entry → List SheetFault
of_sound_type found e = unless (is_data_type_at_fault e) (found e)

-- check 16: each limit once
abbrev pub high_found : DataType → Entry → Property → List SheetFault
high_found t e k = fault_if (is_high_at_fault t e) BadLimits k.line

abbrev pub limits_found : DataType → Entry → List SheetFault
limits_found t e =
    at_key (limit_outside t (low_limit t e)) (codes "LowLimit") e.section
    ++ at_key (high_found t e) (codes "HighLimit") e.section

-- check 17 rests on the limits too: a limit at fault is as if it were absent
abbrev pub is_default_at_fault : DataType → Entry → Default → Bool
is_default_at_fault t e (number value) =
    not (is_in_type t value && at_most (sound_low t e) (Some value)
    && at_most (Some value) (sound_high t e))
is_default_at_fault t e (pairs digits) = not (is_pairs digits)
is_default_at_fault t e default = false

abbrev pub default_found_at : Entry → Property → List SheetFault
default_found_at e k =
    fault_if
    (option_map_or (λ t. is_default_at_fault t e (stated_default t k)) (data_type_of e) false)
    BadDefault k.line

abbrev pub default_found : Entry → List SheetFault
default_found e =
    at_key (default_found_at e) (codes "DefaultValue") e.section
    ++ at_key (default_found_at e) (codes "ParameterValue") e.section

-- ---- all of them

-- check 18 rests on the object lists
abbrev pub all_missing_mandatory : List TextSection → List SheetFault
all_missing_mandatory sections =
    unless (are_lists_at_fault sections) (missing_mandatory sections)

-- those of an entry, checks 10 to 17
abbrev pub all_entry_checks : List (Entry → List SheetFault)
all_entry_checks =
    key_found ∷ unread_entry_numbers ∷ bad_type ∷ of_sound_type left_out_type ∷ bad_access
    ∷ of_sound_type (in_numeric unread_limits) ∷ of_sound_type (in_numeric limits_found)
    ∷ of_sound_type default_found ∷ []

abbrev pub of_sound_entries : (Entry → List SheetFault) → List TextSection → List SheetFault
of_sound_entries check sections = flat_map check (sound_entries sections)

-- the 18 checks, in their order
abbrev pub all_checks : List (List TextSection → List SheetFault)
all_checks =
    missing_lists ∷ unread_list_numbers ∷ all_bad_lists ∷ all_listed_twice
    ∷ all_missing_sections ∷ of_sound_objects unread_object_numbers
    ∷ of_sound_objects object_types_found ∷ all_compact_forms ∷ of_sound_objects sub_index_0_found
    ∷ (map of_sound_entries all_entry_checks ++ all_missing_mandatory ∷ [])

-- What makes a text no data sheet, besides faults of single lines: each check finds the lines at
-- fault (CiA 306, object lists, object description).
use Rattle.std.specs.Prelude.{ℕ, Bool, true, false, ◌&&◌, ◌||◌, not, ◌==◌, nat_lt, if◌then◌else◌, List, [], ◌∷◌, ◌++◌, length, filter, map, flat_map, codes, Option, Some, is_none, Result, Ok, Err, ℤ}
use Rattle.std.specs.List.{list_any, list_all}
use Rattle.std.specs.Option.{option_map_or, option_or}
use Rattle.co_value.specs.declared.data_type.DataType.{DataType}
use Rattle.co_value.specs.declared.data_type.DataType.TheVariants.{Domain}
use Rattle.co_value.specs.Types.{code_of, least_of, greatest_of}
use Rattle.co_sheet_text.specs.declared.section_kind.SectionKind.{SectionKind}
use Rattle.co_sheet_text.specs.declared.section_kind.SectionKind.TheVariants.{MandatoryObjects, DummyUsage, DeviceInfo, DeviceCommissioning, Object}
use Rattle.co_sheet_rows.specs.declared.fault.FaultKind.{FaultKind}
use Rattle.co_sheet_rows.specs.declared.fault.FaultKind.TheVariants.{MissingSection, BadNumber, AmbiguousNumber, BadList, ListedTwice, MissingKey, BadType, LeftOutType, BadAccess, BadLimits, BadDefault, MissingSub0, CompactForm, MissingMandatory}
use Rattle.co_sheet_rows.specs.declared.fault.SheetFault.{SheetFault}
use Rattle.co_sheet_text.specs.declared.numeral.NumeralFault.{NumeralFault}
use Rattle.co_sheet_text.specs.declared.numeral.NumeralFault.TheVariants.{Malformed, Ambiguous}
use Rattle.co_sheet_text.specs.Names.{same_kind, is_list}
use Rattle.co_sheet_text.specs.Sections.{Property, TextSection, property_at, section_at}
use Rattle.co_sheet.specs.Faults.{fault_at}
use Rattle.co_sheet_text.specs.Numerals.{unsigned_number}
use Rattle.co_sheet_text.specs.Properties.{property_number}
use Rattle.co_sheet.specs.ObjectLists.{is_one_of, object_lists, count_of, keys_to, Listing, listings, is_listed}
use Rattle.co_profile.specs.FixedTypes.{fixed_type_of}
use Rattle.co_sheet.specs.Entries.{object_code, single_codes, compound_codes, ListedObject, listed_objects, Entry, sub_indices, entries_of, is_domain, data_type_with, type_code, data_type_of, access_with, is_other_than_zero}
use Rattle.co_sheet.specs.Limits.{Default, number, pairs, number_at_type, numeric_default, is_pairs, is_numeric, low_limit, high_limit, at_most, is_in_type, is_in_limits, stated_default}

-- a fault at a line, if a test holds
abbrev pub fault_if : Bool → FaultKind → ℕ → List SheetFault
fault_if test kind line = if test then fault_at line kind ∷ [] else []

-- what is found at a key, where the section has it
abbrev pub at_key : (Property → List SheetFault) → List ℕ → TextSection → List SheetFault
at_key found name section = option_map_or found (property_at name section) []

-- a number that can't be read, and one that must be unsigned
abbrev pub numeral_fault : NumeralFault → FaultKind
numeral_fault Malformed = BadNumber
numeral_fault Ambiguous = AmbiguousNumber

abbrev pub unread : {X : Type 0} → Result X NumeralFault → ℕ → List SheetFault
unread (Ok x) line = []
unread (Err e) line = fault_at line (numeral_fault e) ∷ []

abbrev pub unread_number : Property → List SheetFault
unread_number k = unread (unsigned_number k.value) k.line

-- check 1: there is no MandatoryObjects
abbrev pub missing_lists : List TextSection → List SheetFault
missing_lists sections = fault_if (is_none (section_at MandatoryObjects sections)) MissingSection 0

-- sections whose values are all numbers
abbrev pub has_numbers : SectionKind → Bool
has_numbers kind =
    is_list kind || same_kind kind DummyUsage || same_kind kind DeviceInfo
    || same_kind kind DeviceCommissioning

-- check 2: a number in lists, DummyUsage, DeviceInfo and the device commissioning
abbrev pub unread_list_numbers : List TextSection → List SheetFault
unread_list_numbers sections =
    flat_map (λ s. flat_map unread_number s.properties) (filter (λ s. has_numbers s.kind) sections)

-- check 3: a list whose count isn't there or doesn't fit 16 bits, that lacks a place (it has fewer
-- than it counts: CountsPlaces in PlaceLaws), or with an index there that doesn't fit 16 bits
abbrev pub is_bad_list : TextSection → ℕ → Bool
is_bad_list list n =
    nat_lt 65535 n || nat_lt (length (keys_to list n)) n
    || list_any (λ k. option_map_or (nat_lt 0xFFFF) (property_number k) false) (keys_to list n)

abbrev pub bad_lists : List TextSection → List SheetFault
bad_lists sections =
    flat_map (λ s. fault_if (option_map_or (is_bad_list s) (count_of s) true) BadList s.line)
    (object_lists sections)

-- check 4: an index that the lists name on an earlier line too
abbrev pub is_listed_before : List Listing → Listing → Bool
is_listed_before listings l =
    list_any (λ other. (other.index == l.index) && nat_lt other.line l.line) listings

abbrev pub listed_twice : List TextSection → Listing → List SheetFault
listed_twice sections l =
    fault_if (is_listed_before (listings sections) l) ListedTwice l.line

-- check 5: a listed object without a section
abbrev pub missing_section : List TextSection → Listing → List SheetFault
missing_section sections l =
    fault_if (is_none (section_at (Object l.index) sections)) MissingSection l.line

-- the sub-index sections that are looked at: those of a VAR or a DOMAIN are passed over
abbrev pub sub_indices_checked : List TextSection → ListedObject → List Entry
sub_indices_checked sections o =
    if is_one_of single_codes (object_code o.section) then [] else sub_indices sections o.index

-- check 6: the numbers that say what an object is
abbrev pub unread_object_numbers : List TextSection → ListedObject → List SheetFault
unread_object_numbers sections o =
    at_key unread_number (codes "ObjectType") o.section
    ++ at_key unread_number (codes "CompactSubObj") o.section
    ++ flat_map (λ e. at_key unread_number (codes "ObjectType") e.section)
    (sub_indices_checked sections o)

-- check 7: an object type that is none; a sub-index is a VAR or a DOMAIN
abbrev pub other_object_type : List ℕ → TextSection → List SheetFault
other_object_type allowed section =
    at_key (λ k. fault_if (not (is_one_of allowed (property_number k))) BadType k.line)
    (codes "ObjectType") section

abbrev pub bad_object_types : List TextSection → ListedObject → List SheetFault
bad_object_types sections o =
    other_object_type (single_codes ++ compound_codes) o.section
    ++ flat_map (λ e. other_object_type single_codes e.section) (sub_indices_checked sections o)

-- check 8: a compact form
abbrev pub compact_form : Property → List SheetFault
compact_form k = fault_if (is_other_than_zero (property_number k)) CompactForm k.line

abbrev pub compact_forms : List TextSection → List SheetFault
compact_forms sections =
    option_map_or (at_key compact_form (codes "CompactPDO")) (section_at DeviceInfo sections) []
    ++ flat_map (λ o. at_key compact_form (codes "CompactSubObj") o.section)
    (listed_objects sections)

-- check 9: an ARRAY or a RECORD without sub-index 0
abbrev pub missing_sub_index_0 : List TextSection → ListedObject → List SheetFault
missing_sub_index_0 sections o =
    fault_if
    (is_one_of compound_codes (object_code o.section)
    && not (list_any (λ e. e.key.sub == 0) (sub_indices sections o.index)))
    MissingSub0 o.section.line

-- check 10: an entry without DataType or AccessType
abbrev pub missing_key : Entry → List SheetFault
missing_key e =
    fault_if
    (not (is_domain e)
    && (is_none (property_at (codes "DataType") e.section)
    || is_none (property_at (codes "AccessType") e.section)))
    MissingKey e.section.line

-- check 11: the numbers of an entry
abbrev pub unread_entry_numbers : Entry → List SheetFault
unread_entry_numbers e =
    at_key unread_number (codes "DataType") e.section
    ++ at_key unread_number (codes "PDOMapping") e.section

-- REAL32, UNICODE_STRING, TIME_OF_DAY, TIME_DIFFERENCE and REAL64, which are left out
abbrev pub left_out_codes : List ℕ
left_out_codes = 0x08 ∷ 0x0B ∷ 0x0C ∷ 0x0D ∷ 0x11 ∷ []

-- the line of the DataType, or of the section where there is none
abbrev pub type_line : Entry → ℕ
type_line e = option_map_or (λ k. k.line) (property_at (codes "DataType") e.section) e.section.line

-- check 12: a code of no type, of another than DOMAIN at object type 2, or of another than the
-- type that is fixed
abbrev pub is_bad_type : Entry → ℕ → Bool
is_bad_type e code =
    (is_none (data_type_with code) && not (is_one_of left_out_codes (Some code)))
    || (is_domain e && not (code == code_of Domain))
    || option_map_or (λ t. not (code == code_of t)) (fixed_type_of e.key) false

abbrev pub bad_type : Entry → List SheetFault
bad_type e = fault_if (option_map_or (is_bad_type e) (type_code e) false) BadType (type_line e)

-- check 13: a type that is left out
abbrev pub left_out_type : Entry → List SheetFault
left_out_type e = fault_if (is_one_of left_out_codes (type_code e)) LeftOutType (type_line e)

-- check 14: a word that is no access type
abbrev pub bad_access : Entry → List SheetFault
bad_access e =
    at_key (λ k. fault_if (is_none (access_with k.value)) BadAccess k.line)
    (codes "AccessType") e.section

-- what is found in an entry of a numeric type
abbrev pub in_numeric : (DataType → Entry → List SheetFault) → Entry → List SheetFault
in_numeric found e = option_map_or (λ t. if is_numeric t then found t e else []) (data_type_of e) []

-- check 15: limits, a default and a parameter value of a numeric type
abbrev pub unread_limit : DataType → Property → List SheetFault
unread_limit t k = unread (number_at_type t k.value) k.line

abbrev pub unread_default : DataType → Property → List SheetFault
unread_default t k = unread (numeric_default t k.value) k.line

abbrev pub unread_defaults : DataType → Entry → List SheetFault
unread_defaults t e =
    at_key (unread_default t) (codes "DefaultValue") e.section
    ++ at_key (unread_default t) (codes "ParameterValue") e.section

abbrev pub unread_limits : DataType → Entry → List SheetFault
unread_limits t e =
    at_key (unread_limit t) (codes "LowLimit") e.section
    ++ at_key (unread_limit t) (codes "HighLimit") e.section ++ unread_defaults t e

-- the lowest and the highest number that an entry may hold: its limit, or where that is absent
-- the type's end
abbrev pub lowest : DataType → Entry → Option ℤ
lowest t e = option_or (low_limit t e) (least_of t)

abbrev pub highest : DataType → Entry → Option ℤ
highest t e = option_or (high_limit t e) (greatest_of t)

-- HighLimit, or LowLimit where that is alone
abbrev pub last_limit : Entry → Option Property
last_limit e =
    option_or (property_at (codes "HighLimit") e.section) (property_at (codes "LowLimit") e.section)

-- LowLimit is on an earlier line than HighLimit
abbrev pub is_low_first : Option Property → Option Property → Bool
is_low_first low high =
    option_map_or (λ h. option_map_or (λ l. nat_lt l.line h.line) low false) high false

-- what is found of both limits rests on a LowLimit outside the type's range, whose fault is on an
-- earlier line
abbrev pub rests_on_low : DataType → Entry → Bool
rests_on_low t e =
    is_low_first (property_at (codes "LowLimit") e.section)
    (property_at (codes "HighLimit") e.section)
    && not (option_map_or (is_in_type t) (low_limit t e) true)

-- check 16: a limit outside the type's range; the lowest number above the highest, at the last
-- limit, unless that rests on a fault before it
abbrev pub limit_outside : DataType → Option ℤ → Property → List SheetFault
limit_outside t limit k = fault_if (not (option_map_or (is_in_type t) limit true)) BadLimits k.line

abbrev pub limits_crossed : DataType → Entry → Property → List SheetFault
limits_crossed t e k =
    fault_if (not (at_most (lowest t e) (highest t e)) && not (rests_on_low t e)) BadLimits k.line

abbrev pub bad_limits : DataType → Entry → List SheetFault
bad_limits t e =
    at_key (limit_outside t (low_limit t e)) (codes "LowLimit") e.section
    ++ at_key (limit_outside t (high_limit t e)) (codes "HighLimit") e.section
    ++ option_map_or (limits_crossed t e) (last_limit e) []

-- check 17: DefaultValue or ParameterValue, each by itself, is a number outside the type or the
-- limits, or an OCTET_STRING's that isn't pairs of digits
abbrev pub is_bad_default : DataType → Entry → Default → Bool
is_bad_default t e (number value) = not (is_in_limits t e value)
is_bad_default t e (pairs value) = not (is_pairs value)
is_bad_default t e default = false

abbrev pub bad_default_at : Entry → Property → List SheetFault
bad_default_at e k =
    fault_if (option_map_or (λ t. is_bad_default t e (stated_default t k)) (data_type_of e) false)
    BadDefault k.line

abbrev pub bad_default : Entry → List SheetFault
bad_default e =
    at_key (bad_default_at e) (codes "DefaultValue") e.section
    ++ at_key (bad_default_at e) (codes "ParameterValue") e.section

-- check 18: 1000h, 1001h or 1018h is in no list
abbrev pub missing_mandatory : List TextSection → List SheetFault
missing_mandatory sections =
    fault_if (not (list_all (is_listed sections) (0x1000 ∷ 0x1001 ∷ 0x1018 ∷ [])))
    MissingMandatory 0

-- a check of each listing, listed object or entry
abbrev pub of_listings : (List TextSection → Listing → List SheetFault)
    → List TextSection → List SheetFault
of_listings check sections = flat_map (check sections) (listings sections)

abbrev pub of_objects : (List TextSection → ListedObject → List SheetFault)
    → List TextSection → List SheetFault
of_objects check sections = flat_map (check sections) (listed_objects sections)

abbrev pub of_entries : (Entry → List SheetFault) → List TextSection → List SheetFault
of_entries check sections = flat_map check (entries_of sections)

-- the checks of the object lists, of what they name, and of an entry
abbrev pub list_checks : List (List TextSection → List SheetFault)
list_checks =
    missing_lists ∷ unread_list_numbers ∷ bad_lists ∷ of_listings listed_twice ∷ []

abbrev pub object_checks : List (List TextSection → List SheetFault)
object_checks =
    of_listings missing_section ∷ of_objects unread_object_numbers
    ∷ of_objects bad_object_types ∷ compact_forms ∷ of_objects missing_sub_index_0 ∷ []

abbrev pub entry_checks : List (Entry → List SheetFault)
entry_checks =
    missing_key ∷ unread_entry_numbers ∷ bad_type ∷ left_out_type ∷ bad_access
    ∷ in_numeric unread_limits ∷ in_numeric bad_limits ∷ bad_default ∷ []

-- those of all entries
abbrev pub entries_checks : List (List TextSection → List SheetFault)
entries_checks = map of_entries entry_checks

-- the checks in their order
abbrev pub checks : List (List TextSection → List SheetFault)
checks = list_checks ++ (object_checks ++ (entries_checks ++ missing_mandatory ∷ []))

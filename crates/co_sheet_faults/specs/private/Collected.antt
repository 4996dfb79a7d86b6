-- The faults in the order in which the code finds them: section by section, listing by listing.
use Rattle.std.specs.Prelude.{ℕ, Bool, not, ◌&&◌, if◌then◌else◌, List, [], ◌++◌, map, flat_map, codes}
use Rattle.std.specs.List.{list_any}
use Rattle.std.specs.Option.{option_map_or}
use Rattle.co_value.specs.declared.data_type.DataType.{DataType}
use Rattle.co_sheet_text.specs.declared.section_kind.SectionKind.TheVariants.{DeviceInfo}
use Rattle.co_sheet_rows.specs.declared.fault.FaultKind.TheVariants.{MissingMandatory}
use Rattle.co_sheet_rows.specs.declared.fault.SheetFault.{SheetFault}
use Rattle.co_sheet_text.specs.Names.{is_list}
use Rattle.co_sheet_text.specs.Text.{Line}
use Rattle.co_sheet_text.specs.LinesAtFault.{own_faults, sections_read}
use Rattle.co_sheet_text.specs.Sections.{TextSection, section_at}
use Rattle.co_sheet.specs.declared.checks.lists.Listing.{Listing as ListingOfCode}
use Rattle.co_sheet.specs.Faults.{sheet_fault}
use Rattle.co_sheet.specs.ObjectLists.{is_one_of, Listing, listings}
use Rattle.co_sheet.specs.Entries.{single_codes, compound_codes, object_code, ListedObject, Entry, sub_indices, data_type_of}
use Rattle.co_sheet.specs.Limits.{is_numeric}
use Rattle.co_sheet.specs.SectionViews.{object_at}
use Rattle.co_sheet.specs.Checks.{fault_if, at_key, unread_number, missing_lists, has_numbers, listed_twice, missing_section, compact_form, bad_type, left_out_type, bad_access, unread_limit, unread_default}
use Rattle.co_sheet_faults.specs.Soundness.{unless, is_unread_at, is_index, is_sound}
use Rattle.co_sheet_faults.specs.AllChecks.{bad_list, object_type_found, sub_index_0_found, key_found, of_sound_type, limits_found, default_found_at, default_found, all_missing_mandatory}
use Rattle.co_sheet_faults.specs.private.ListParts.{is_listing_at_fault, lacks_mandatory}

-- ---- an entry

abbrev pub type_collected : Entry → List SheetFault
type_collected e =
    at_key unread_number (codes "DataType") e.section
    ++ (bad_type e ++ of_sound_type left_out_type e)

-- a default of a numeric type
abbrev pub default_collected : List ℕ → DataType → Entry → List SheetFault
default_collected name t e =
    at_key (unread_default t) name e.section ++ at_key (default_found_at e) name e.section

abbrev pub numeric_collected : DataType → Entry → List SheetFault
numeric_collected t e =
    at_key (unread_limit t) (codes "LowLimit") e.section
    ++ (at_key (unread_limit t) (codes "HighLimit") e.section
    ++ (limits_found t e
    ++ (default_collected (codes "DefaultValue") t e
    ++ default_collected (codes "ParameterValue") t e)))

abbrev pub values_at : DataType → Entry → List SheetFault
values_at t e = if is_numeric t then numeric_collected t e else default_found e

abbrev pub values_collected : Entry → List SheetFault
values_collected e = option_map_or (λ t. values_at t e) (data_type_of e) []

abbrev pub entry_collected : Entry → List SheetFault
entry_collected e =
    key_found e
    ++ (type_collected e
    ++ (at_key unread_number (codes "PDOMapping") e.section
    ++ (bad_access e ++ of_sound_type values_collected e)))

-- ---- an object

-- an ObjectType of these codes
abbrev pub object_type_collected : List ℕ → TextSection → List SheetFault
object_type_collected allowed section =
    at_key unread_number (codes "ObjectType") section ++ object_type_found allowed section

abbrev pub compact_in : TextSection → List SheetFault
compact_in section = at_key compact_form (codes "CompactSubObj") section

abbrev pub compact_collected : TextSection → List SheetFault
compact_collected section =
    at_key unread_number (codes "CompactSubObj") section ++ compact_in section

-- a sub-index section, and the entry that it is, if it is one
abbrev pub part_collected : Bool → Entry → List SheetFault
part_collected is_entry e =
    object_type_collected single_codes e.section ++ (if is_entry then entry_collected e else [])

-- the entry of a VAR or a DOMAIN
abbrev pub own_entry : ListedObject → Entry
own_entry o = record { key = record { index = o.index; sub = 0 }; section = o.section }

abbrev pub parts_collected : List TextSection → ListedObject → List SheetFault
parts_collected sections o =
    if is_one_of single_codes (object_code o.section) then entry_collected (own_entry o)
    else flat_map (part_collected (is_one_of compound_codes (object_code o.section)))
    (sub_indices sections o.index)

abbrev pub object_collected : List TextSection → ListedObject → List SheetFault
object_collected sections o =
    object_type_collected (single_codes ++ compound_codes) o.section
    ++ (compact_collected o.section
    ++ (sub_index_0_found sections o ++ parts_collected sections o))

-- ---- the object lists

abbrev pub listing_collected : List TextSection → Listing → List SheetFault
listing_collected sections l =
    unless (not (is_index l.index)) (listed_twice sections l)
    ++ unless (not (is_sound sections l))
    (missing_section sections l
    ++ option_map_or (object_collected sections) (object_at l.index sections) [])

abbrev pub numbers_collected : TextSection → List SheetFault
numbers_collected s = if has_numbers s.kind then flat_map unread_number s.properties else []

abbrev pub list_collected : TextSection → List SheetFault
list_collected s =
    if is_list s.kind then unless (is_unread_at (codes "SupportedObjects") s) (bad_list s) else []

abbrev pub section_collected : TextSection → List SheetFault
section_collected s = numbers_collected s ++ list_collected s

abbrev pub compact_pdo : List TextSection → List SheetFault
compact_pdo sections =
    option_map_or (at_key compact_form (codes "CompactPDO")) (section_at DeviceInfo sections) []

-- ---- all of them

-- what is found after the lists on their own: whether there are lists, whether one is at fault, and
-- what the code reads of them
abbrev pub collected_after :
    Bool → Bool → List ListingOfCode → List TextSection → List SheetFault
collected_after has_lists are_at_fault named sections =
    compact_pdo sections
    ++ (flat_map (listing_collected sections) (listings sections)
    ++ fault_if
    (has_lists && not are_at_fault
    && not (list_any (is_listing_at_fault sections) (listings sections)) && lacks_mandatory named)
    MissingMandatory 0)

abbrev pub collected : List TextSection → List SheetFault
collected sections =
    missing_lists sections
    ++ (flat_map section_collected sections
    ++ (compact_pdo sections
    ++ (flat_map (listing_collected sections) (listings sections)
    ++ all_missing_mandatory sections)))

-- and those of lines before them
abbrev pub text_collected : List Line → List SheetFault
text_collected lines = map sheet_fault (own_faults [] lines) ++ collected (sections_read lines)

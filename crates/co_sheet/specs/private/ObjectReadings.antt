-- What is checked of a listed object, and what is read of it on the way
-- (CiA 306, object description).
use Rattle.std.specs.Prelude.{◌≡◌, ℕ, ◌==◌, not, List, [], ◌∷◌, ◌++◌, Option, Some, None, map, option_map, option_and_then, codes}
use Rattle.std.specs.List.{list_any}
use Rattle.std.specs.Option.{option_map_or}
use Rattle.co_sheet_text.specs.declared.section_kind.SectionKind.TheVariants.{DeviceInfo}
use Rattle.co_sheet_text.specs.Sections.{TextSection, section_at}
use Rattle.co_sheet.specs.Accepted.{least_fault}
use Rattle.co_sheet_rows.specs.declared.fault.FaultKind.TheVariants.{MissingSub0}
use Rattle.co_sheet_rows.specs.declared.object.ObjectType.TheVariants.{Domain, Var}
use Rattle.co_sheet.specs.declared.checks.findings.Finding.{Finding}
use Rattle.co_sheet_rows.specs.declared.fault.SheetFault.{SheetFault}
use Rattle.co_sheet_rows.specs.declared.object.Object.{Object}
use Rattle.co_sheet_rows.specs.declared.object.ObjectType.{ObjectType}
use Rattle.co_sheet.specs.ObjectLists.{Listing, listings}
use Rattle.co_sheet.specs.Entries.{single_codes, compound_codes, object_code, object_type_with, ListedObject, Entry, entries_in}
use Rattle.co_sheet.specs.Checks.{fault_if, at_key, unread_number, missing_section, unread_object_numbers, other_object_type, bad_object_types, compact_form, missing_sub_index_0}
use Rattle.co_sheet.specs.Content.{ObjectRow, object_row_of}
use Rattle.co_sheet.specs.SectionViews.{object_at}
use Rattle.co_sheet.specs.SheetViews.{object_row_view}
use Rattle.co_sheet.specs.private.Findings.{found_by, first_finding, sooner, soonest}

-- the object type that a section states
abbrev pub type_of : TextSection → Option ObjectType
type_of section = option_and_then object_type_with (object_code section)

-- what checks 6 and 7 find first in the ObjectType of an object, and of a sub-index
abbrev pub unread_type : TextSection → List SheetFault
unread_type section = at_key unread_number (codes "ObjectType") section

abbrev pub type_finding : List ℕ → TextSection → Option Finding
type_finding allowed section =
    first_finding 6 (unread_type ∷ other_object_type allowed ∷ []) section

abbrev pub object_codes : List ℕ
object_codes = single_codes ++ compound_codes

abbrev pub part_finding : Entry → Option Finding
part_finding e = type_finding single_codes e.section

-- what checks 6 and 8 find first in the CompactSubObj of an object
abbrev pub unread_form : TextSection → List SheetFault
unread_form section = at_key unread_number (codes "CompactSubObj") section

abbrev pub compact_in : TextSection → List SheetFault
compact_in section = at_key compact_form (codes "CompactSubObj") section

abbrev pub form_finding : TextSection → Option Finding
form_finding section =
    first_finding 6 (unread_form ∷ (λ s. []) ∷ compact_in ∷ []) section

-- check 9, where the object is an ARRAY or a RECORD
abbrev pub sub_0_finding : ℕ → List Entry → Option Finding
sub_0_finding line parts =
    option_map (found_by 9)
    (least_fault (fault_if (not (list_any (λ e. e.key.sub == 0) parts)) MissingSub0 line))

-- what checks 6, 7 and 9 find first in sub-index sections, which a VAR or a DOMAIN has none of
abbrev pub parts_finding : Option ObjectType → ℕ → List Entry → Option Finding
parts_finding (Some Domain) line parts = None
parts_finding (Some Var) line parts = None
parts_finding (Some object_type) line parts =
    sooner (soonest part_finding parts) (sub_0_finding line parts)
parts_finding None line parts = soonest part_finding parts

-- check 8 of the PDOs
abbrev pub compact_pdo : List TextSection → List SheetFault
compact_pdo sections =
    option_map_or (at_key compact_form (codes "CompactPDO")) (section_at DeviceInfo sections) []

-- checks 6 to 9 of an object, and what they find first
abbrev pub checks_of_object : List TextSection → List (ListedObject → List SheetFault)
checks_of_object sections =
    unread_object_numbers sections ∷ bad_object_types sections
    ∷ (λ o. compact_in o.section) ∷ missing_sub_index_0 sections ∷ []

abbrev pub object_finding : List TextSection → ListedObject → Option Finding
object_finding sections o = first_finding 6 (checks_of_object sections) o

-- what is found in the object of a listing
abbrev pub of_object : {X : Type 0} → List TextSection → (ListedObject → List X) → Listing → List X
of_object sections found l = option_map_or found (object_at l.index sections) []

-- checks 5 to 9 of a listing, and what they find first
abbrev pub checks_of_listing : List TextSection → List (Listing → List SheetFault)
checks_of_listing sections =
    missing_section sections ∷ map (of_object sections) (checks_of_object sections)

abbrev pub listing_finding : List TextSection → Listing → Option Finding
listing_finding sections l = first_finding 5 (checks_of_listing sections) l

-- the row and the entries of the object of a listing
abbrev pub row_at : List TextSection → Listing → Option ObjectRow
row_at sections l = option_and_then object_row_of (object_at l.index sections)

abbrev pub entries_at : List TextSection → Listing → List Entry
entries_at sections l = of_object sections (entries_in sections) l

-- the rows of the objects that are read so far
abbrev pub rows_so_far : List Object → List (Option ObjectRow)
rows_so_far objects = map (λ r. Some (object_row_view r)) objects

-- each listing has its object's row
abbrev pub HaveObjects : List TextSection → List Object → Type 0
HaveObjects sections rows =
    map (row_at sections) (listings sections) ≡ map (λ r. Some (object_row_view r)) rows

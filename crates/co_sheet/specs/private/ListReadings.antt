-- What is checked of the object lists, and what is read of them on the way
-- (CiA 306, object lists).
use Rattle.std.specs.Prelude.{ℕ, Bool, ◌&&◌, ◌==◌, not, false, nat_le, nat_lt, List, [], ◌∷◌, Option, Some, None, flat_map, map, option_and_then, if◌then◌else◌}
use Rattle.std.specs.List.{list_any, list_all}
use Rattle.std.specs.Option.{option_map_or}
use Rattle.co_sheet_text.specs.Names.{is_list, is_position, number_in}
use Rattle.co_sheet_text.specs.Sections.{Property, TextSection}
use Rattle.co_sheet_text.specs.Properties.{property_number}
use Rattle.co_sheet_text.specs.SectionLaws.{RisesFrom}
use Rattle.co_sheet.specs.declared.checks.findings.Finding.{Finding}
use Rattle.co_sheet_rows.specs.declared.fault.FaultKind.TheVariants.{BadList, ListedTwice, MissingMandatory}
use Rattle.co_sheet_rows.specs.declared.fault.SheetFault.{SheetFault}
use Rattle.co_sheet.specs.ObjectLists.{Listing}
use Rattle.co_sheet.specs.Checks.{fault_if, unread_number, has_numbers, is_listed_before, missing_lists, unread_list_numbers, bad_lists}
pub use Rattle.co_sheet.specs.Listings.{listing_view, is_bad_section, named_in, named_by}
use Rattle.co_sheet.specs.private.Findings.{first_finding}

-- one of the places up to a number
abbrev pub is_key_to : ℕ → Property → Bool
is_key_to count k = is_position k.name && nat_le (number_in 10 k.name) count

-- the listing of an index from 1000h on, at a line
abbrev pub listing_with : ℕ → ℕ → Option Listing
listing_with line index =
    if nat_le 0x1000 index then Some (record { index = index; line = line }) else None

-- what a key names, if it is one of the places up to a number
abbrev pub listing_at : ℕ → Property → Option Listing
listing_at count k =
    if is_key_to count k then option_and_then (listing_with k.line) (property_number k) else None

-- an index above FFFFh
abbrev pub is_large : Option ℕ → Bool
is_large index = option_map_or (nat_lt 0xFFFF) index false

-- a value that is there, as a list
abbrev pub listed : {X : Type 0} → Option X → List X
listed None = []
listed (Some x) = x ∷ []

-- checks 2 and 3 of one section
abbrev pub unread_in : TextSection → List SheetFault
unread_in s = if has_numbers s.kind then flat_map unread_number s.properties else []

abbrev pub bad_in : TextSection → List SheetFault
bad_in s = if is_list s.kind then fault_if (is_bad_section s) BadList s.line else []

-- what they find first
abbrev pub list_finding : TextSection → Option Finding
list_finding s = first_finding 2 (unread_in ∷ bad_in ∷ []) s

-- checks 1 to 3, of sections by themselves
abbrev pub own_checks : List (List TextSection → List SheetFault)
own_checks = missing_lists ∷ unread_list_numbers ∷ bad_lists ∷ []

-- an index is listed
abbrev pub is_listed_at : ℕ → List Listing → Bool
is_listed_at index listings = list_any (λ l. l.index == index) listings

-- check 4 of listings
abbrev pub twice_in : List Listing → List SheetFault
twice_in listings =
    flat_map (λ l. fault_if (is_listed_before listings l) ListedTwice l.line) listings

-- the listings come in the order of their lines
abbrev pub LinesRise : List Listing → Type 0
LinesRise listings = RisesFrom 1 (map (λ l. l.line) listings)

-- check 18, by whether an index is listed
abbrev pub unlisted_mandatory : (ℕ → Bool) → List SheetFault
unlisted_mandatory is_listed =
    fault_if (not (list_all is_listed (0x1000 ∷ 0x1001 ∷ 0x1018 ∷ []))) MissingMandatory 0

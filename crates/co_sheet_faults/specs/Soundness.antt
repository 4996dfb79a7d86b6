-- Which values are at fault, so that no fault is reported that rests on them (CiA 306, object
-- lists, object description).
use Rattle.std.specs.Prelude.{ℕ, Bool, true, false, not, ◌&&◌, ◌||◌, nat_lt, if◌then◌else◌, List, [], ◌∷◌, filter, filter_map, flat_map, codes, Option, None, ℤ}
use Rattle.std.specs.Option.{option_map_or}
use Rattle.co_value.specs.declared.data_type.DataType.{DataType}
use Rattle.co_sheet_rows.specs.declared.fault.SheetFault.{SheetFault}
use Rattle.co_sheet_text.specs.Sections.{TextSection, property_at}
use Rattle.co_sheet_text.specs.Properties.{property_number}
use Rattle.co_sheet.specs.ObjectLists.{is_one_of, Listing, object_lists, listings}
use Rattle.co_sheet.specs.Entries.{single_codes, ListedObject, Entry, entries_in}
use Rattle.co_sheet.specs.SectionViews.{object_at}
use Rattle.co_sheet.specs.Limits.{low_limit, high_limit, at_most, is_in_type}
use Rattle.co_sheet.specs.Checks.{rests_on_low, unread_number, missing_lists, bad_lists, is_listed_before, of_listings, listed_twice, missing_section, other_object_type, bad_type}

-- what is found, where nothing that it rests on is at fault
abbrev pub unless : Bool → List SheetFault → List SheetFault
unless is_at_fault found = if is_at_fault then [] else found

-- whether anything is found
abbrev pub is_found : List SheetFault → Bool
is_found [] = false
is_found (fault ∷ faults) = true

-- a number that a section states at a name, and that can't be read
abbrev pub is_unread_at : List ℕ → TextSection → Bool
is_unread_at name section =
    option_map_or (λ k. is_found (unread_number k)) (property_at name section) false

-- ---- what the lists name

-- the object lists as a whole are at fault: objects may be missing in what they name
abbrev pub unread_in_lists : List TextSection → List SheetFault
unread_in_lists sections =
    flat_map (λ s. flat_map unread_number s.properties) (object_lists sections)

abbrev pub are_lists_at_fault : List TextSection → Bool
are_lists_at_fault sections =
    is_found (missing_lists sections) || is_found (unread_in_lists sections)
    || is_found (bad_lists sections) || is_found (of_listings listed_twice sections)
    || is_found (of_listings missing_section sections)

-- an index fits 16 bits
abbrev pub is_index : ℕ → Bool
is_index n = not (nat_lt 0xFFFF n)

-- a listing names an index of 16 bits, and is the first to name it
abbrev pub is_sound : List TextSection → Listing → Bool
is_sound sections l = is_index l.index && not (is_listed_before (listings sections) l)

abbrev pub sound_listings : List TextSection → List Listing
sound_listings sections = filter (is_sound sections) (listings sections)

-- the objects of these listings, each once, and their entries
abbrev pub sound_objects : List TextSection → List ListedObject
sound_objects sections = filter_map (λ l. object_at l.index sections) (sound_listings sections)

abbrev pub sound_entries : List TextSection → List Entry
sound_entries sections = flat_map (entries_in sections) (sound_objects sections)

-- ---- objects and entries

-- CompactSubObj stands in for the sub-index sections, or can't be read
abbrev pub is_compact : TextSection → Bool
is_compact section =
    option_map_or (λ k. not (is_one_of (0 ∷ []) (property_number k)))
    (property_at (codes "CompactSubObj") section) false

-- the ObjectType of an entry, which says whether it is a DOMAIN, or its DataType is at fault
abbrev pub is_object_type_at_fault : Entry → Bool
is_object_type_at_fault e = is_found (other_object_type single_codes e.section)

abbrev pub is_data_type_at_fault : Entry → Bool
is_data_type_at_fault e = is_found (bad_type e)

-- a limit that can be read, and is outside the type's range or, as HighLimit, below LowLimit, unless
-- that is on an earlier line and itself outside
abbrev pub is_outside : DataType → Option ℤ → Bool
is_outside t limit = not (option_map_or (is_in_type t) limit true)

abbrev pub is_low_at_fault : DataType → Entry → Bool
is_low_at_fault t e = is_outside t (low_limit t e)

abbrev pub is_high_at_fault : DataType → Entry → Bool
is_high_at_fault t e =
    is_outside t (high_limit t e)
    || (not (at_most (low_limit t e) (high_limit t e)) && not (rests_on_low t e))

-- the limits against which a default is checked
abbrev pub sound_low : DataType → Entry → Option ℤ
sound_low t e = if is_low_at_fault t e then None else low_limit t e

abbrev pub sound_high : DataType → Entry → Option ℤ
sound_high t e = if is_high_at_fault t e then None else high_limit t e

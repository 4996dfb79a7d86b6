-- The object lists: which indices a data sheet lists (CiA 306, object lists).
use Rattle.std.specs.Prelude.{ℕ, Bool, false, not, ◌&&◌, ◌==◌, nat_le, List, [], filter, filter_map, flat_map, codes, Option, option_map}
use Rattle.std.specs.List.{list_any, range_with_len}
use Rattle.std.specs.Option.{option_map_or}
use Rattle.co_sheet_text.specs.Names.{is_list, is_position, number_in}
use Rattle.co_sheet_text.specs.Sections.{Property, TextSection}
use Rattle.co_sheet_text.specs.Properties.{property_number, number_at}

-- a number that is there and is one of these
abbrev pub is_one_of : List ℕ → Option ℕ → Bool
is_one_of numbers number = option_map_or (λ n. list_any (λ m. m == n) numbers) number false

-- the sections that are object lists
abbrev pub object_lists : List TextSection → List TextSection
object_lists sections = filter (λ s. is_list s.kind) sections

-- SupportedObjects: how many objects a list has
abbrev pub count_of : TextSection → Option ℕ
count_of list = number_at (codes "SupportedObjects") list

-- the keys 1 to n of a list; those past n are passed over
abbrev pub keys_to : TextSection → ℕ → List Property
keys_to list n = filter (λ k. is_position k.name && nat_le (number_in 10 k.name) n) list.properties

-- whether a list has the key of a place, and whether it lacks one of 1 to n
abbrev pub has_place : TextSection → ℕ → Bool
has_place list i = list_any (λ k. is_position k.name && (number_in 10 k.name == i)) list.properties

abbrev pub lacks_place : TextSection → ℕ → Bool
lacks_place list n = list_any (λ i. not (has_place list i)) (range_with_len 1 n)

-- an index that a list names, and the line where it does
pub record Listing : Type 0 where
  pub index : ℕ
  pub line : ℕ

-- what one list names, key by key; a list without a count names nothing
abbrev pub listings_in : TextSection → List Listing
listings_in list =
    filter_map (λ k. option_map (λ n. record { index = n; line = k.line }) (property_number k))
    (option_map_or (keys_to list) (count_of list) [])

-- what the lists name; an index below 1000h is passed over
abbrev pub listings : List TextSection → List Listing
listings sections =
    filter (λ l. nat_le 0x1000 l.index) (flat_map listings_in (object_lists sections))

-- whether the lists name an index
abbrev pub is_listed : List TextSection → ℕ → Bool
is_listed sections index = list_any (λ l. l.index == index) (listings sections)

-- Which objects the lists name (CiA 306-1, object lists).
use Rattle.std.specs.Prelude.{
  ℕ,
  Bool,
  false,
  not,
  ◌&&◌,
  ◌||◌,
  ◌==◌,
  nat_le,
  nat_lt,
  if◌then◌else◌,
  List,
  [],
  ◌∷◌,
  ◌++◌,
  find,
  flat_map,
  filter_map,
  Option,
  Some,
  None,
}
use Rattle.std.specs.Option.{option_map_or}
use Rattle.co_sheet_text.specs.declared.section_kind.SectionKind.{SectionKind}
use Rattle.co_sheet_text.specs.declared.section_kind.SectionKind.TheVariants.{
  MandatoryObjects,
  ManufacturerObjects,
}
use Rattle.co_sheet_text.specs.Names.{is_list, number_in}
use Rattle.co_sheet_text.specs.Numerals.{is_number_in}
use Rattle.co_sheet_text.specs.Sections.{Property, TextSection}
use Rattle.co_sheet_text.specs.Properties.{property_number}
use Rattle.co_sheet.specs.ObjectLists.{Listing, count_of, is_listed}
use Rattle.co_sheet.specs.Listings.{is_bad_section, named_by}
use Rattle.co_sheet_text_warnings.specs.Ranges.{is_within}

-- 1000h, 1001h and 1018h are mandatory, 2000h to 5FFFh the manufacturer's, and all others optional
abbrev pub is_mandatory : ℕ → Bool
is_mandatory index = (index == 0x1000) || (index == 0x1001) || (index == 0x1018)

abbrev pub is_of_manufacturer : ℕ → Bool
is_of_manufacturer index = is_within 0x2000 0x5FFF index

abbrev pub is_right_list : SectionKind → ℕ → Bool
is_right_list MandatoryObjects index = is_mandatory index
is_right_list ManufacturerObjects index = is_of_manufacturer index
is_right_list list index = not (is_mandatory index || is_of_manufacturer index)

-- a number with a leading zero is no place of a list
abbrev pub begins_with_0 : List ℕ → Bool
begins_with_0 [] = false
begins_with_0 (b ∷ bs) = b == 48

-- a list names an object that belongs in another list
abbrev pub wrong_listing : SectionKind → Listing → Option ℕ
wrong_listing list l =
    if nat_le l.index 0xFFFF && not (is_right_list list l.index) then Some l.line else None

-- or a key from 1 to its count names an index below 1000h, those of data types, which is passed over
abbrev pub is_place_to : ℕ → List ℕ → Bool
is_place_to count name =
    not (begins_with_0 name) && is_number_in 10 name && nat_le (number_in 10 name) count

abbrev pub is_low : Property → Bool
is_low k = option_map_or (λ n. nat_lt n 0x1000) (property_number k) false

abbrev pub low_listing : ℕ → Property → Option ℕ
low_listing count k = if is_place_to count k.name && is_low k then Some k.line else None

abbrev pub low_listings : TextSection → List ℕ
low_listings s =
    if is_list s.kind
    then option_map_or (λ count. filter_map (low_listing count) s.properties) (count_of s) []
    else []

abbrev pub wrong_listings : TextSection → List ℕ
wrong_listings s = filter_map (wrong_listing s.kind) (named_by s) ++ low_listings s

abbrev pub wrong_lists : List TextSection → List ℕ
wrong_lists sections = flat_map wrong_listings sections

-- an index of a list is smaller than the one before it: the first, if any
abbrev pub first_fall : ℕ → List Listing → List ℕ
first_fall last [] = []
first_fall last (l ∷ ls) = if nat_lt l.index last then l.line ∷ [] else first_fall l.index ls

abbrev pub list_order : TextSection → List ℕ
list_order s = first_fall 0 (named_by s)

abbrev pub list_orders : List TextSection → List ℕ
list_orders sections = flat_map list_order sections

-- a place past the count of a list, which nothing reads
abbrev pub is_past : ℕ → Property → Bool
is_past count k =
    not (begins_with_0 k.name) && is_number_in 10 k.name && nat_lt count (number_in 10 k.name)

-- the first of a list, if the list isn't bad
abbrev pub first_past : List Property → ℕ → List ℕ
first_past properties count =
    option_map_or (λ k. k.line ∷ []) (find (is_past count) properties) []

abbrev pub is_good_list : TextSection → Bool
is_good_list s = is_list s.kind && not (is_bad_section s)

abbrev pub uncounted_key : TextSection → List ℕ
uncounted_key s =
    if is_good_list s then option_map_or (first_past s.properties) (count_of s) [] else []

abbrev pub uncounted_keys : List TextSection → List ℕ
uncounted_keys sections = flat_map uncounted_key sections

-- the lists name 1000h, and neither the heartbeat's time nor both objects of node guarding
-- (CiA 301, error control)
abbrev pub lacks_error_control : List TextSection → Bool
lacks_error_control sections =
    is_listed sections 0x1000 && not (is_listed sections 0x1017)
    && not (is_listed sections 0x100C && is_listed sections 0x100D)

abbrev pub no_error_control : List TextSection → List ℕ
no_error_control sections = if lacks_error_control sections then 0 ∷ [] else []

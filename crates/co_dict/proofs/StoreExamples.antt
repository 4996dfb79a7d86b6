-- What fits an entry, and what a write and a reset change, computed from the definitions.
use Rattle.std.proofs.Common.{◌≡◌, ℕ, true, false, List, [], ◌∷◌, Option, Some, None, refl}
use Rattle.std.specs.Prelude.{pos, find, option_map}
use Rattle.co_value.specs.declared.key.Key.{Key}
use Rattle.co_value.specs.declared.data_type.DataType.TheVariants.{Unsigned16, VisibleString}
use Rattle.co_value.specs.Keys.{same_key}
use Rattle.co_profile.specs.declared.access.Access.TheVariants.{Rw}
use Rattle.co_dict.specs.declared.row.Row.{Row}
use Rattle.co_dict.specs.declared.area.Area.TheVariants.{Communication, All}
use Rattle.co_dict.specs.Stores.{Description, greatest_capacity}
use Rattle.co_dict.specs.Places.{place_of, key_at, row_at, bytes_at, takes_at, written_at}
use Rattle.co_dict.specs.Rows.{Rows, Contents, fits, takes, written, is_in_area, restored}

abbrev at : ℕ → ℕ → Key
at index sub = record { index = index; sub = sub }

abbrev number : Row
number = record { data_type = Unsigned16; access = Rw; low = pos 0; high = pos 65535; capacity = 2; mappable = false }

abbrev text : Row
text = record { data_type = VisibleString; access = Rw; low = pos 0; high = pos 0; capacity = 3; mappable = false }

-- what a list has at a key
abbrev listed : {A : Type 0} → List (Key × A) → Key → Option A
listed pairs key = option_map (λ pair. pair.1) (find (λ pair. same_key key pair.0) pairs)

-- a heartbeat time, and two entries of one object of the manufacturer's
abbrev rows : Rows
rows = listed ((at 0x1017 0, number) ∷ (at 0x2000 1, text) ∷ (at 0x2000 2, text) ∷ [])

-- their bytes at first
abbrev initial : Contents
initial = listed ((at 0x1017 0, 0 ∷ 0 ∷ []) ∷ (at 0x2000 1, 65 ∷ []) ∷ (at 0x2000 2, []) ∷ [])

-- the time and the last entry were changed
abbrev contents : Contents
contents = listed ((at 0x1017 0, 100 ∷ 0 ∷ []) ∷ (at 0x2000 1, 65 ∷ []) ∷ (at 0x2000 2, 66 ∷ 67 ∷ []) ∷ [])

-- ---- what fits

number_short : fits number 1 ≡ false
number_short = refl

number_exact : fits number 2 ≡ true
number_exact = refl

number_long : fits number 3 ≡ false
number_long = refl

text_empty : fits text 0 ≡ true
text_empty = refl

text_full : fits text 3 ≡ true
text_full = refl

text_long : fits text 4 ≡ false
text_long = refl

takes_two : takes rows (at 0x1017 0) 2 ≡ true
takes_two = refl

takes_nothing_where_absent : takes rows (at 0x1017 1) 2 ≡ false
takes_nothing_where_absent = refl

-- ---- areas

below_communication : is_in_area Communication (at 0x0FFF 0) ≡ false
below_communication = refl

first_of_communication : is_in_area Communication (at 0x1000 0) ≡ true
first_of_communication = refl

last_of_communication : is_in_area Communication (at 0x1FFF 255) ≡ true
last_of_communication = refl

above_communication : is_in_area Communication (at 0x2000 0) ≡ false
above_communication = refl

all_below : is_in_area All (at 0x0FFF 0) ≡ true
all_below = refl

all_above : is_in_area All (at 0xFFFF 255) ≡ true
all_above = refl

-- ---- what changes

writes_the_key : written contents (at 0x2000 1) (70 ∷ []) (at 0x2000 1) ≡ Some (70 ∷ [])
writes_the_key = refl

leaves_the_neighbour : written contents (at 0x2000 1) (70 ∷ []) (at 0x2000 2) ≡ Some (66 ∷ 67 ∷ [])
leaves_the_neighbour = refl

leaves_another_index : written contents (at 0x2000 0) (70 ∷ []) (at 0x1017 0) ≡ Some (100 ∷ 0 ∷ [])
leaves_another_index = refl

restores_communication : restored Communication initial contents (at 0x1017 0) ≡ Some (0 ∷ 0 ∷ [])
restores_communication = refl

leaves_the_manufacturer : restored Communication initial contents (at 0x2000 2) ≡ Some (66 ∷ 67 ∷ [])
leaves_the_manufacturer = refl

restores_all : restored All initial contents (at 0x2000 2) ≡ Some []
restores_all = refl

-- ---- places

abbrev device : Description
device = record { node = 5; rows = rows; initial = initial; dummies = λ index. false; keys = at 0x1017 0 ∷ at 0x2000 1 ∷ at 0x2000 2 ∷ [] }

-- the greatest capacity, wherever its entry is
greatest_last : greatest_capacity device ≡ 3
greatest_last = refl

greatest_first : greatest_capacity (record device { keys = at 0x2000 1 ∷ at 0x1017 0 ∷ [] }) ≡ 3
greatest_first = refl

greatest_of_one : greatest_capacity (record device { keys = at 0x1017 0 ∷ [] }) ≡ 2
greatest_of_one = refl

greatest_of_none : greatest_capacity (record device { keys = [] }) ≡ 0
greatest_of_none = refl

place_of_last : place_of device (at 0x2000 2) ≡ Some 2
place_of_last = refl

place_of_none : place_of device (at 0x2000 3) ≡ None
place_of_none = refl

key_at_last : key_at device 2 ≡ Some (at 0x2000 2)
key_at_last = refl

key_past_last : key_at device 3 ≡ None
key_past_last = refl

row_at_place : row_at device 0 ≡ Some number
row_at_place = refl

row_at_none : row_at device 3 ≡ None
row_at_none = refl

bytes_at_place : bytes_at device contents 2 ≡ Some (66 ∷ 67 ∷ [])
bytes_at_place = refl

bytes_at_none : bytes_at device contents 3 ≡ None
bytes_at_none = refl

takes_at_place : takes_at device 0 2 ≡ true
takes_at_place = refl

takes_too_short_at_place : takes_at device 0 1 ≡ false
takes_too_short_at_place = refl

takes_nothing_at_none : takes_at device 3 0 ≡ false
takes_nothing_at_none = refl

writes_at_place : written_at device contents 1 (68 ∷ []) (at 0x2000 1) ≡ Some (68 ∷ [])
writes_at_place = refl

writes_no_neighbour : written_at device contents 1 (68 ∷ []) (at 0x2000 2) ≡ Some (66 ∷ 67 ∷ [])
writes_no_neighbour = refl

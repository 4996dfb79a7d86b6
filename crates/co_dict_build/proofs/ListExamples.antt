-- A list of entries as a dictionary, and what a reset changes in it, computed from the definitions.
use Rattle.std.proofs.Common.{◌≡◌, ℕ, Bool, true, false, List, [], ◌∷◌, Some, None, refl}
use Rattle.std.specs.Prelude.{pos, map}
use Rattle.co_value.specs.declared.key.Key.{Key}
use Rattle.co_value.specs.declared.data_type.DataType.TheVariants.{Unsigned16, VisibleString}
use Rattle.co_profile.specs.declared.access.Access.TheVariants.{Rw}
use Rattle.co_dict.specs.declared.row.Row.{Row}
use Rattle.co_dict.specs.declared.area.Area.TheVariants.{Communication}
use Rattle.co_dict_build.specs.ListedEntries.{ListedEntry, initial_entry, rows_in, contents_in, initial_in, keys_in, are_increasing, reset_entry, description_in}

abbrev at : ℕ → ℕ → Key
at index sub = record { index = index; sub = sub }

abbrev number : Row
number = record { data_type = Unsigned16; access = Rw; low = pos 0; high = pos 65535; capacity = 2; mappable = false }

abbrev text : Row
text = record { data_type = VisibleString; access = Rw; low = pos 0; high = pos 0; capacity = 3; mappable = false }

abbrev changed : Key → Row → List ℕ → List ℕ → ListedEntry
changed key row initial bytes = record { key = key; row = row; bytes = bytes; initial = initial }

-- a heartbeat time that was changed, and two entries of one object of the manufacturer's
abbrev entries : List ListedEntry
entries =
    changed (at 0x1017 0) number (0 ∷ 0 ∷ []) (100 ∷ 0 ∷ [])
    ∷ initial_entry (at 0x2000 1) text (65 ∷ [])
    ∷ changed (at 0x2000 2) text [] (66 ∷ 67 ∷ [])
    ∷ []

-- ---- by key

bytes_of_a_key : contents_in entries (at 0x2000 2) ≡ Some (66 ∷ 67 ∷ [])
bytes_of_a_key = refl

initial_of_a_key : initial_in entries (at 0x2000 2) ≡ Some []
initial_of_a_key = refl

row_of_a_key : rows_in entries (at 0x2000 1) ≡ Some text
row_of_a_key = refl

another_sub_index : contents_in entries (at 0x2000 0) ≡ None
another_sub_index = refl

another_index : contents_in entries (at 0x2001 1) ≡ None
another_index = refl

-- the first entry that has the key
first_of_two : contents_in (initial_entry (at 0x2000 1) text (68 ∷ []) ∷ entries) (at 0x2000 1) ≡ Some (68 ∷ [])
first_of_two = refl

-- ---- the order of keys

no_keys : are_increasing [] ≡ true
no_keys = refl

increasing : are_increasing (keys_in entries) ≡ true
increasing = refl

twice : are_increasing (at 0x2000 1 ∷ at 0x2000 1 ∷ []) ≡ false
twice = refl

sub_index_decreases : are_increasing (at 0x2000 2 ∷ at 0x2000 1 ∷ []) ≡ false
sub_index_decreases = refl

index_decreases : are_increasing (at 0x2001 0 ∷ at 0x2000 1 ∷ []) ≡ false
index_decreases = refl

index_first : are_increasing (at 0x2000 255 ∷ at 0x2001 0 ∷ []) ≡ true
index_first = refl

last_out_of_order : are_increasing (at 0x1000 0 ∷ at 0x2000 0 ∷ at 0x1FFF 0 ∷ []) ≡ false
last_out_of_order = refl

-- ---- what a reset changes

resets_each : contents_in (map (reset_entry Communication) entries) (at 0x1017 0) ≡ Some (0 ∷ 0 ∷ [])
resets_each = refl

resets_no_other : contents_in (map (reset_entry Communication) entries) (at 0x2000 2) ≡ Some (66 ∷ 67 ∷ [])
resets_no_other = refl

-- ---- dummy entries: 0003h and 0007h may be mapped

abbrev dummies : ℕ → Bool
dummies = (description_in 5 (false ∷ true ∷ false ∷ false ∷ false ∷ true ∷ []) entries).dummies

first_dummy : dummies 2 ≡ false
first_dummy = refl

second_dummy : dummies 3 ≡ true
second_dummy = refl

last_dummy : dummies 7 ≡ true
last_dummy = refl

past_the_dummies : dummies 8 ≡ false
past_the_dummies = refl

below_the_dummies : dummies 1 ≡ false
below_the_dummies = refl

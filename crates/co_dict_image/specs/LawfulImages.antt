-- What holds of an image: each slot has its room within it, and its entry is one of a dictionary.
use Rattle.std.proofs.Common.{◌≡◌, ◌+◌, ◌≤◌, ℕ, zero, suc, true, List, [], ◌∷◌, length, take, eqb, sym, subst, arith}
use Rattle.std.specs.Prelude.{drop}
use Rattle.std.specs.List.{AllByRecursion}
use Rattle.std.proofs.lemmas.Bool.{and_parts, eqb-true}
use Rattle.std.proofs.lemmas.List.{length-take-le, length-drop}
use Rattle.co_value.specs.Numbers.{AreBytes}
use Rattle.co_dict.specs.Rows.{fits}
use Rattle.co_dict_build.specs.ListedEntries.{IsEntry}
use Rattle.co_dict_image.specs.declared.slot.Slot.{Slot}
use Rattle.co_dict_image.specs.Slots.{entry_in, entries_in, are_lined}

-- the first slot of a line begins where the line does, and the rest follow its room
pub starts : (at : ℕ) (slot : Slot) (slots : List Slot) (end : ℕ) → are_lined at (slot ∷ slots) end ≡ true → slot.start ≡ at
starts at slot slots end h = eqb-true slot.start at (and_parts (eqb slot.start at) (are_lined (at + slot.row.capacity) slots end) h).0

pub follow : (at : ℕ) (slot : Slot) (slots : List Slot) (end : ℕ) → are_lined at (slot ∷ slots) end ≡ true → are_lined (at + slot.row.capacity) slots end ≡ true
follow at slot slots end h = (and_parts (eqb slot.start at) (are_lined (at + slot.row.capacity) slots end) h).1

-- a line ends where it begins, or after
pub ends : (at : ℕ) (slots : List Slot) (end : ℕ) → are_lined at slots end ≡ true → at ≤ end
ends at [] end h = let same : at ≡ end = eqb-true at end h in omega arith
ends at (slot ∷ slots) end h = let later = ends (at + slot.row.capacity) slots end (follow at slot slots end h) in omega arith

-- a part of bytes are bytes
bytes-take : (n : ℕ) (bytes : List ℕ) → AreBytes bytes → AreBytes (take n bytes)
bytes-take zero bytes h = tt
bytes-take (suc n) [] h = tt
bytes-take (suc n) (byte ∷ bytes) h = (h.0, bytes-take n bytes h.1)

bytes-drop : (n : ℕ) (bytes : List ℕ) → AreBytes bytes → AreBytes (drop n bytes)
bytes-drop zero bytes h = h
bytes-drop (suc n) [] h = tt
bytes-drop (suc n) (byte ∷ bytes) h = bytes-drop n bytes h.1

-- this many bytes from a place on, where they are within the list
pub part_length : (size start : ℕ) (values : List ℕ) → start + size ≤ length values → length (take size (drop start values)) ≡ size
part_length size start values h = length-take-le size (drop start values) (let rest = length-drop start values in omega arith)

module _ (values initial : List ℕ) (same : length initial ≡ length values) (bytes : AreBytes values) (initial_bytes : AreBytes initial) where
  is_entry : (slot : Slot) → slot.start + slot.row.capacity ≤ length values → IsEntry (entry_in values initial slot)
  is_entry slot room =
      let size : length (take slot.size (drop slot.start values)) ≡ slot.size = part_length slot.size slot.start values (let within = slot.within in omega arith) in
      let initial_size : length (take slot.initial_size (drop slot.start initial)) ≡ slot.initial_size = part_length slot.initial_size slot.start initial (let within = slot.initially_within in omega arith) in
      record {
        key = slot.is_key;
        from_1000 = slot.from_1000;
        capacity = slot.capacity;
        width = slot.width;
        fixed = slot.fixed;
        limits = slot.limits;
        fitting = subst (λ n. fits slot.row n ≡ true) (sym size) slot.fitting;
        bytes = bytes-take slot.size (drop slot.start values) (bytes-drop slot.start values bytes);
        initially = subst (λ n. fits slot.row n ≡ true) (sym initial_size) slot.initially;
        initial_bytes = bytes-take slot.initial_size (drop slot.start initial) (bytes-drop slot.start initial initial_bytes);
      }

  entries_from : (at : ℕ) (slots : List Slot) → are_lined at slots (length values) ≡ true → AllByRecursion IsEntry (entries_in values initial slots)
  entries_from at [] h = tt
  entries_from at (slot ∷ slots) h =
      let begin = starts at slot slots (length values) h in
      let later = ends (at + slot.row.capacity) slots (length values) (follow at slot slots (length values) h) in
      (is_entry slot (omega arith), entries_from (at + slot.row.capacity) slots (follow at slot slots (length values) h))

-- each entry of an image is one of a dictionary
pub are_entries : (values initial : List ℕ) (slots : List Slot) → are_lined 0 slots (length values) ≡ true → length initial ≡ length values → AreBytes values → AreBytes initial → AllByRecursion IsEntry (entries_in values initial slots)
are_entries values initial slots lined same bytes initial_bytes = entries_from values initial same bytes initial_bytes 0 slots lined

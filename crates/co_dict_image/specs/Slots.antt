-- Entries in an image: where the room of each is, and which of the bytes there are its own.
use Rattle.std.specs.Prelude.{◌≡◌, ℕ, ◌+◌, ◌==◌, ◌&&◌, Bool, List, [], ◌∷◌, map, take, drop, length}
use Rattle.co_value.specs.declared.key.Key.{Key}
use Rattle.co_dict_build.specs.ListedEntries.{ListedEntry}
use Rattle.co_dict_image.specs.Ranges.{with_range}
use Rattle.co_dict_image.specs.declared.slot.Slot.{Slot}

-- the entry of a slot: its bytes are the first in its room
abbrev pub entry_in : List ℕ → List ℕ → Slot → ListedEntry
entry_in values initial slot = record {
  key = slot.key;
  row = slot.row;
  bytes = take slot.size (drop slot.start values);
  initial = take slot.initial_size (drop slot.start initial);
}

-- the entries of the slots
abbrev pub entries_in : List ℕ → List ℕ → List Slot → List ListedEntry
entries_in values initial slots = map (entry_in values initial) slots

-- the rooms of the slots are one after another, from a place on up to an end
abbrev pub are_lined : ℕ → List Slot → ℕ → Bool
are_lined at [] end = at == end
are_lined at (slot ∷ slots) end = (slot.start == at) && are_lined (at + slot.row.capacity) slots end

-- the keys of the slots
abbrev pub keys_of : List Slot → List Key
keys_of slots = map (λ (slot : Slot). slot.key) slots

-- bytes were put into the room of a slot: the other values are as before, and the slot's size is
-- the number of bytes
pub record IsFilled (old : Slot) (before bytes : List ℕ) (new : Slot) (after : List ℕ) : Type 0 where
  pub values : after ≡ with_range before old.start bytes
  pub len : length after ≡ length before
  pub key : new.key ≡ old.key
  pub row : new.row ≡ old.row
  pub start : new.start ≡ old.start
  pub size : new.size ≡ length bytes
  pub initial_size : new.initial_size ≡ old.initial_size

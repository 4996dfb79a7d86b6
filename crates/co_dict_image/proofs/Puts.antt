-- An image after the room of one slot was written.
use Rattle.std.proofs.Common.{◌≡◌, ◌+◌, ◌<◌, ◌≤◌, ℕ, true, List, length, get_or, set, sym, ap, ◌∙◌, subst, arith}
use Rattle.std.specs.Vec.{with_items}
use Rattle.std.specs.declared.vec.Vec.{Vec}
use Rattle.std.proofs.Math.ListN.{get_or-map}
use Rattle.std.proofs.lemmas.List.{with_items_is}
use Rattle.co_value.specs.Numbers.{AreBytes}
use Rattle.co_dict.specs.declared.row.Row.{Row}
use Rattle.co_dict_build.specs.ListedEntries.{ListedEntry, are_increasing}
use Rattle.co_dict_image.specs.declared.slot.Slot.{Slot}
use Rattle.co_dict_image.specs.Ranges.{with_range}
use Rattle.co_dict_image.specs.Slots.{entry_in, entries_in, are_lined, keys_of, IsFilled}
use Rattle.co_dict_image.specs.Images.{filled_at}
use Rattle.co_dict_image.proofs.Rooms.{room_in, same_line, same_keys, entries_filled, bytes_with_range, IsInPlace}

-- the entry of the slot that was read at a place
pub entry_at_slot : (values initial : List ℕ) (slots : List Slot) (at : ℕ) (s : Slot) → s ≡ get_or slots at s → entry_in values initial s ≡ get_or (entries_in values initial slots) at (entry_in values initial s)
entry_at_slot values initial slots at s is = ap (entry_in values initial) is ∙ sym (get_or-map (entry_in values initial) slots at s)

-- the room of the slot that was read at a place is within the image
pub room_at : (values : List ℕ) (slots : List Slot) (at : ℕ) (s : Slot) → are_lined 0 slots (length values) ≡ true → at < length slots → s ≡ get_or slots at s → s.start + s.row.capacity ≤ length values
room_at values slots at s lined within is = subst (λ (s : Slot). s.start + s.row.capacity ≤ length values) (sym is) (room_in 0 slots (length values) at s lined within).to

-- bytes were put into the room of the slot at a place
pub record IsPut {Z : Type 0} (values : Vec ℕ Z) (slots : List Slot) (at : ℕ) (s s' : Slot) (bytes held new : List ℕ) : Type 0 where
  pub held_is : held ≡ values.items
  pub held_len : length held ≡ values.len
  pub lined : are_lined 0 slots (length values.items) ≡ true
  pub within : at < length slots
  pub was : s ≡ get_or slots at s
  pub filled : IsFilled s held bytes s' new

pub is_put : {Z : Type 0} (values : Vec ℕ Z) (slots : List Slot) (at : ℕ) {s s' : Slot} {bytes held new : List ℕ} → held ≡ values.items → length held ≡ values.len
    → are_lined 0 slots (length values.items) ≡ true → at < length slots → s ≡ get_or slots at s → IsFilled s held bytes s' new → IsPut values slots at s s' bytes held new
is_put values slots at h n l w g f = record { held_is = h; held_len = n; lined = l; within = w; was = g; filled = f }

module _ {Z : Type 0} {values : Vec ℕ Z} {slots : List Slot} {at : ℕ} {s s' : Slot} {bytes held new : List ℕ} (p : IsPut values slots at s s' bytes held new) where
  in_place : IsInPlace (get_or slots at s) s'
  in_place = subst (λ (t : Slot). IsInPlace t s') p.was (record { key = p.filled.key; row = p.filled.row; start = p.filled.start; initial_size = p.filled.initial_size })

  pub items_put : (with_items values new).items ≡ with_range values.items s.start bytes
  items_put = with_items_is values new (p.filled.len ∙ p.held_len) ∙ p.filled.values ∙ ap (λ (l : List ℕ). with_range l s.start bytes) p.held_is

  len_put : length (with_items values new).items ≡ length values.items
  len_put = ap length (with_items_is values new (p.filled.len ∙ p.held_len)) ∙ p.filled.len ∙ ap length p.held_is

  pub lined_put : are_lined 0 (set slots at s') (length (with_items values new).items) ≡ true
  lined_put = same_line slots at s s' in_place 0 (length (with_items values new).items) ∙ ap (are_lined 0 slots) len_put ∙ p.lined

  pub keys_put : keys_of (set slots at s') ≡ keys_of slots
  keys_put = same_keys slots at s s' in_place.key

  pub increasing_put : are_increasing (keys_of slots) ≡ true → are_increasing (keys_of (set slots at s')) ≡ true
  increasing_put h = ap are_increasing keys_put ∙ h

  pub same_put : (initial : List ℕ) → length initial ≡ length values.items → length initial ≡ length (with_items values new).items
  same_put initial h = h ∙ sym len_put

  pub bytes_put : AreBytes values.items → AreBytes bytes → AreBytes (with_items values new).items
  bytes_put h k = subst AreBytes (sym items_put) (bytes_with_range values.items s.start bytes h k)

  small : length bytes ≤ s.row.capacity
  small = subst (λ (row : Row). length bytes ≤ row.capacity) p.filled.row (subst (λ n. n ≤ s'.row.capacity) p.filled.size s'.within)

  pub entries_put : (initial : List ℕ) (d : ListedEntry) → entries_in (with_items values new).items initial (set slots at s') ≡ filled_at (entries_in values.items initial slots) at d bytes
  entries_put initial d =
      let room = room_at values.items slots at s p.lined p.within p.was in
      let fit = small in
      ap (λ (l : List ℕ). entries_in l initial (set slots at s')) items_put
      ∙ entries_filled values.items initial s.start bytes (omega (arith, room, fit)) 0 slots at s s' d p.lined p.within in_place
      (ap (λ (t : Slot). t.start) (sym p.was)) p.filled.size (subst (λ (t : Slot). length bytes ≤ t.row.capacity) p.was small)

-- A write into the room of one slot changes the bytes of no other.
use Rattle.std.proofs.Common.{◌≡◌, ◌+◌, ◌-◌, ◌<◌, ◌≤◌, ℕ, zero, suc, true, List, [], ◌∷◌, ◌++◌, length, get_or, set, take, eqb, refl, sym, ap, ◌∙◌, arith}
use Rattle.std.specs.Prelude.{drop, ◌&&◌}
use Rattle.std.proofs.lemmas.List.{length-take-le, length-drop, length-append, take-append-le, drop-append-le, take-take, drop-take}
use Rattle.std.proofs.lemmas.Slice.{drop-append-drop}
use Rattle.std.proofs.Math.Seq.{drop-append_seam, take-append_seam, map-set_same}
use Rattle.std.proofs.lemmas.List.{append_assoc}
use Rattle.co_value.specs.declared.key.Key.{Key}
use Rattle.co_value.specs.Numbers.{AreBytes}
use Rattle.co_dict.specs.declared.row.Row.{Row}
use Rattle.co_dict_build.specs.ListedEntries.{ListedEntry}
use Rattle.co_dict_image.specs.declared.slot.Slot.{Slot}
use Rattle.co_dict_image.specs.Ranges.{with_range}
use Rattle.co_dict_image.specs.Slots.{entry_in, entries_in, are_lined, keys_of}
use Rattle.co_dict_image.specs.LawfulImages.{starts, follow, ends}

-- ---- a range of a list, over-written

module _ (values : List ℕ) (start : ℕ) (bytes : List ℕ) (within : start + length bytes ≤ length values) where
  front : length (take start values) ≡ start
  front = length-take-le start values (omega (arith, within))

  -- what is past the range
  past : (k : ℕ) → start + length bytes ≤ k → drop k (with_range values start bytes) ≡ drop k values
  past k le = drop-append-drop (start + length bytes) values (take start values ++ bytes) k le (length-append (take start values) bytes ∙ ap (λ n. n + length bytes) front)

  -- what is before it
  before : (n k : ℕ) → k + n ≤ start → take n (drop k (with_range values start bytes)) ≡ take n (drop k values)
  before n k le =
      let more : List ℕ = bytes ++ drop (start + length bytes) values in
      let split : start ≡ k + (start - k) = omega (arith, le) in
      let rest : length (drop k (take start values)) ≡ start - k = length-drop k (take start values) ∙ ap (λ m. m - k) front in
      ap (λ (l : List ℕ). take n (drop k l)) (append_assoc (take start values) bytes (drop (start + length bytes) values))
      ∙ ap (take n) (drop-append-le k (take start values) more (omega (arith, le, front)))
      ∙ take-append-le n (drop k (take start values)) more (omega (arith, le, rest))
      ∙ ap (λ m. take n (drop k (take m values))) split
      ∙ ap (take n) (drop-take k (start - k) values)
      ∙ take-take n (start - k) (drop k values) (omega (arith, le))

  -- and the range itself
  inside : take (length bytes) (drop start (with_range values start bytes)) ≡ bytes
  inside =
      let more : List ℕ = bytes ++ drop (start + length bytes) values in
      ap (λ (l : List ℕ). take (length bytes) (drop start l)) (append_assoc (take start values) bytes (drop (start + length bytes) values))
      ∙ ap (λ n. take (length bytes) (drop n (take start values ++ more))) (sym front)
      ∙ ap (take (length bytes)) (drop-append_seam (take start values) more)
      ∙ take-append_seam bytes (drop (start + length bytes) values)

bytes-append : (xs ys : List ℕ) → AreBytes xs → AreBytes ys → AreBytes (xs ++ ys)
bytes-append [] ys h k = k
bytes-append (x ∷ xs) ys h k = (h.0, bytes-append xs ys h.1 k)

bytes-take : (n : ℕ) (xs : List ℕ) → AreBytes xs → AreBytes (take n xs)
bytes-take zero xs h = tt
bytes-take (suc n) [] h = tt
bytes-take (suc n) (x ∷ xs) h = (h.0, bytes-take n xs h.1)

bytes-drop : (n : ℕ) (xs : List ℕ) → AreBytes xs → AreBytes (drop n xs)
bytes-drop zero xs h = h
bytes-drop (suc n) [] h = tt
bytes-drop (suc n) (x ∷ xs) h = bytes-drop n xs h.1

pub bytes_with_range : (values : List ℕ) (start : ℕ) (bytes : List ℕ) → AreBytes values → AreBytes bytes → AreBytes (with_range values start bytes)
bytes_with_range values start bytes h k =
    bytes-append (take start values ++ bytes) (drop (start + length bytes) values) (bytes-append (take start values) bytes (bytes-take start values h) k) (bytes-drop (start + length bytes) values h)

-- ---- the rooms of slots

-- a slot has its room between the two ends of its line
pub record HasRoom (at end : ℕ) (slot : Slot) : Type 0 where
  pub from : at ≤ slot.start
  pub to : slot.start + slot.row.capacity ≤ end

pub room_in : (at : ℕ) (slots : List Slot) (end i : ℕ) (d : Slot) → are_lined at slots end ≡ true → i < length slots → HasRoom at end (get_or slots i d)
room_in at [] end i d h within = absurd (omega (arith, within))
room_in at (slot ∷ slots) end zero d h within =
    let begin = starts at slot slots end h in
    let later = ends (at + slot.row.capacity) slots end (follow at slot slots end h) in
    record { from = omega (arith, begin); to = omega (arith, begin, later) }
room_in at (slot ∷ slots) end (suc i) d h within =
    let rest = room_in (at + slot.row.capacity) slots end i d (follow at slot slots end h) (omega (arith, within)) in
    let from = rest.from in
    record { from = omega (arith, from); to = rest.to }

-- a slot that is where another one was
pub record IsInPlace (old new : Slot) : Type 0 where
  pub key : new.key ≡ old.key
  pub row : new.row ≡ old.row
  pub start : new.start ≡ old.start
  pub initial_size : new.initial_size ≡ old.initial_size

pub same_keys : (slots : List Slot) (i : ℕ) (d slot : Slot) → slot.key ≡ (get_or slots i d).key → keys_of (set slots i slot) ≡ keys_of slots
same_keys slots i d slot same = map-set_same (λ (s : Slot). s.key) slots i slot d same

pub same_line : (slots : List Slot) (i : ℕ) (d slot : Slot) → IsInPlace (get_or slots i d) slot → (at end : ℕ) → are_lined at (set slots i slot) end ≡ are_lined at slots end
same_line [] i d slot same at end = refl
same_line (s ∷ slots) zero d slot same at end =
    ap (λ (start : ℕ). eqb start at && are_lined (at + slot.row.capacity) slots end) same.start
    ∙ ap (λ (row : Row). eqb s.start at && are_lined (at + row.capacity) slots end) same.row
same_line (s ∷ slots) (suc i) d slot same at end = ap (λ b. eqb s.start at && b) (same_line slots i d slot same (at + s.row.capacity) end)

-- ---- the entries after a write

module _ (values initial : List ℕ) (start : ℕ) (bytes : List ℕ) (within : start + length bytes ≤ length values) where
  later_entries : (at : ℕ) (slots : List Slot) → are_lined at slots (length values) ≡ true → start + length bytes ≤ at → entries_in (with_range values start bytes) initial slots ≡ entries_in values initial slots
  later_entries at [] h le = refl
  later_entries at (slot ∷ slots) h le =
      let begin = starts at slot slots (length values) h in
      let same : drop slot.start (with_range values start bytes) ≡ drop slot.start values = past values start bytes within slot.start (omega (arith, begin, le)) in
      let rest = later_entries (at + slot.row.capacity) slots (follow at slot slots (length values) h) (omega (arith, le)) in
      ap (λ (part : List ℕ). let e : ListedEntry = record { key = slot.key; row = slot.row; bytes = take slot.size part; initial = take slot.initial_size (drop slot.start initial) } in e ∷ entries_in (with_range values start bytes) initial slots) same
      ∙ ap (λ (es : List ListedEntry). entry_in values initial slot ∷ es) rest

  -- the entry of the slot that was written
  entry_here : (old new : Slot) → IsInPlace old new → old.start ≡ start → new.size ≡ length bytes → entry_in (with_range values start bytes) initial new ≡ record (entry_in values initial old) { bytes = bytes }
  entry_here old new same here size =
      let part : take new.size (drop new.start (with_range values start bytes)) ≡ bytes =
      ap (λ n. take n (drop new.start (with_range values start bytes))) size ∙ ap (λ n. take (length bytes) (drop n (with_range values start bytes))) (same.start ∙ here) ∙ inside values start bytes within in
      let made : Key → Row → List ℕ → ℕ → ℕ → ListedEntry = λ key row b n k. record { key = key; row = row; bytes = b; initial = take n (drop k initial) } in
      ap (λ b. made new.key new.row b new.initial_size new.start) part
      ∙ ap (λ key. made key new.row bytes new.initial_size new.start) same.key
      ∙ ap (λ row. made old.key row bytes new.initial_size new.start) same.row
      ∙ ap (λ n. made old.key old.row bytes n new.start) same.initial_size
      ∙ ap (λ k. made old.key old.row bytes old.initial_size k) same.start

  entry_before : (slot : Slot) → slot.start + slot.row.capacity ≤ start → entry_in (with_range values start bytes) initial slot ≡ entry_in values initial slot
  entry_before slot le =
      let fits = slot.within in
      ap (λ (part : List ℕ). let e : ListedEntry = record { key = slot.key; row = slot.row; bytes = part; initial = take slot.initial_size (drop slot.start initial) } in e)
      (before values start bytes within slot.size slot.start (omega (arith, le, fits)))

  pub entries_filled : (at : ℕ) (slots : List Slot) (i : ℕ) (d new : Slot) (e : ListedEntry) → are_lined at slots (length values) ≡ true → i < length slots
      → IsInPlace (get_or slots i d) new → (get_or slots i d).start ≡ start → new.size ≡ length bytes → length bytes ≤ (get_or slots i d).row.capacity
      → entries_in (with_range values start bytes) initial (set slots i new) ≡ set (entries_in values initial slots) i (record (get_or (entries_in values initial slots) i e) { bytes = bytes })
  entries_filled at [] i d new e h inside same here size fits = absurd (omega (arith, inside))
  entries_filled at (slot ∷ slots) zero d new e h inside same here size fits =
      let begin = starts at slot slots (length values) h in
      let rest = later_entries (at + slot.row.capacity) slots (follow at slot slots (length values) h) (omega (arith, begin, here, fits)) in
      ap (λ (first : ListedEntry). first ∷ entries_in (with_range values start bytes) initial slots) (entry_here slot new same here size)
      ∙ ap (λ (es : List ListedEntry). let first : ListedEntry = record (entry_in values initial slot) { bytes = bytes } in first ∷ es) rest
  entries_filled at (slot ∷ slots) (suc i) d new e h inside same here size fits =
      let begin = starts at slot slots (length values) h in
      let room = room_in (at + slot.row.capacity) slots (length values) i d (follow at slot slots (length values) h) (omega (arith, inside)) in
      let from = room.from in
      ap (λ (first : ListedEntry). first ∷ entries_in (with_range values start bytes) initial (set slots i new)) (entry_before slot (omega (arith, begin, from, here)))
      ∙ ap (λ (es : List ListedEntry). entry_in values initial slot ∷ es)
      (entries_filled (at + slot.row.capacity) slots i d new e (follow at slot slots (length values) h) (omega (arith, inside)) same here size fits)

-- a part of bytes are bytes
pub bytes_part : (size start : ℕ) (values : List ℕ) → AreBytes values → AreBytes (take size (drop start values))
bytes_part size start values h = bytes-take size (drop start values) (bytes-drop start values h)

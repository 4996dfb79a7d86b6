-- One more slot in an image, with its room at the end.
use Rattle.std.proofs.Common.{◌≡◌, ◌<◌, ◌≤◌, ◌+◌, ℕ, zero, suc, true, false, cond, List, [], ◌∷◌, ◌++◌, length, take, get_or, map, eqb, sym, ap, ◌∙◌, subst, arith}
use Rattle.std.specs.Prelude.{drop, AllPairs}
use Rattle.std.specs.List.{list_any}
use Rattle.std.specs.Ordering.{is_eq}
use Rattle.std.proofs.lemmas.Bool.Decides.{nat_tests}
use Rattle.std.proofs.lemmas.Bool.{and_from}
use Rattle.std.proofs.lemmas.List.{length-append, length-drop, length-take-le, length-map, take-append-le, drop-append-le, get_or-take, get_or-map, map-append}
use Rattle.std.proofs.lemmas.List.Folds.{list_any_none}
use Rattle.std.proofs.Math.Seq.{drop-append_seam}
use Rattle.indexmap.specs.IndexSet.{insert_key}
use Rattle.co_value.specs.declared.key.Key.{Key}
use Rattle.co_value.specs.Keys.{same_key, is_key_before}
use Rattle.co_value.specs.Numbers.{AreBytes}
use Rattle.co_dict.specs.declared.row.Row.{Row}
use Rattle.co_sheet_rows.specs.declared.entry.EntryRow.{EntryRow}
use Rattle.co_sheet.specs.SheetViews.{row_view}
use Rattle.co_dict_build.specs.Capacities.{Limits}
use Rattle.co_dict_build.specs.Built.{entry_of}
use Rattle.co_dict_build.specs.ListedEntries.{ListedEntry, keys_in, are_increasing}
use Rattle.co_dict_build.proofs.Plans.{keys_built, keys_increase}
use Rattle.co_dict_build.proofs.Search.{before_later, other_compares, before_compares}
use Rattle.co_dict_image.specs.declared.slot.Slot.{Slot}
use Rattle.co_dict_image.specs.Slots.{entry_in, entries_in, are_lined, keys_of}
use Rattle.co_dict_image.specs.LawfulImages.{starts, follow, ends}
use Rattle.co_dict_image.proofs.Entries.{keys_same}

-- what is within a list stays as it is when the list grows
part_stays : (size start : ℕ) (bytes more : List ℕ) → start + size ≤ length bytes → take size (drop start (bytes ++ more)) ≡ take size (drop start bytes)
part_stays size start bytes more h =
    let rest = length-drop start bytes in
    ap (take size) (drop-append-le start bytes more (omega (arith, h))) ∙ take-append-le size (drop start bytes) more (omega (arith, h, rest))

entry_stays : (bytes more : List ℕ) (slot : Slot) → slot.start + slot.row.capacity ≤ length bytes → entry_in (bytes ++ more) (bytes ++ more) slot ≡ entry_in bytes bytes slot
entry_stays bytes more slot room =
    let within = slot.within in
    let initially = slot.initially_within in
    ap (λ (part : List ℕ). let e : ListedEntry = record { key = slot.key; row = slot.row; bytes = part; initial = take slot.initial_size (drop slot.start (bytes ++ more)) } in e)
    (part_stays slot.size slot.start bytes more (omega (arith, room, within)))
    ∙ ap (λ (part : List ℕ). let e : ListedEntry = record { key = slot.key; row = slot.row; bytes = take slot.size (drop slot.start bytes); initial = part } in e)
    (part_stays slot.initial_size slot.start bytes more (omega (arith, room, initially)))

-- a slot with the room of an entry at the end of bytes
pub record IsNext (bytes more : List ℕ) (s : Slot) (e : ListedEntry) : Type 0 where
  pub start : s.start ≡ length bytes
  pub key : s.key ≡ e.key
  pub row : s.row ≡ e.row
  pub size : s.size ≡ length e.bytes
  pub initial_size : s.initial_size ≡ length e.bytes
  pub room : length more ≡ e.row.capacity
  pub front : take (length e.bytes) more ≡ e.bytes
  pub initially : e.initial ≡ e.bytes

module _ (bytes more : List ℕ) (s : Slot) (e : ListedEntry) (n : IsNext bytes more s e) where
  small : length e.bytes ≤ length more
  small = let within = s.within in
      let capacity : s.row.capacity ≡ length more = ap (λ (row : Row). row.capacity) n.row ∙ sym n.room in
      let size = n.size in omega (arith, within, capacity, size)

  part : (size start : ℕ) → size ≡ length e.bytes → start ≡ length bytes → take size (drop start (bytes ++ more)) ≡ e.bytes
  part size start is at =
      ap (λ k. take size (drop k (bytes ++ more))) at ∙ ap (take size) (drop-append_seam bytes more) ∙ ap (λ k. take k more) is ∙ n.front

  entry_next : entry_in (bytes ++ more) (bytes ++ more) s ≡ e
  entry_next =
      let made : Key → Row → List ℕ → List ℕ → ListedEntry = λ key row b i. record { key = key; row = row; bytes = b; initial = i } in
      ap (λ b. made s.key s.row b (take s.initial_size (drop s.start (bytes ++ more)))) (part s.size s.start n.size n.start)
      ∙ ap (λ i. made s.key s.row e.bytes i) (part s.initial_size s.start n.initial_size n.start ∙ sym n.initially)
      ∙ ap (λ key. made key s.row e.bytes e.initial) n.key
      ∙ ap (λ row. made e.key row e.bytes e.initial) n.row

  entries_next : (at : ℕ) (slots : List Slot) → are_lined at slots (length bytes) ≡ true → entries_in (bytes ++ more) (bytes ++ more) (slots ++ s ∷ []) ≡ entries_in bytes bytes slots ++ e ∷ []
  entries_next at [] h = ap (λ (x : ListedEntry). x ∷ []) entry_next
  entries_next at (slot ∷ slots) h =
      let begin = starts at slot slots (length bytes) h in
      let later = ends (at + slot.row.capacity) slots (length bytes) (follow at slot slots (length bytes) h) in
      ap (λ (x : ListedEntry). x ∷ entries_in (bytes ++ more) (bytes ++ more) (slots ++ s ∷ [])) (entry_stays bytes more slot (omega (arith, begin, later)))
      ∙ ap (λ (xs : List ListedEntry). entry_in bytes bytes slot ∷ xs) (entries_next (at + slot.row.capacity) slots (follow at slot slots (length bytes) h))

  lined_next : (at : ℕ) (slots : List Slot) → are_lined at slots (length bytes) ≡ true → are_lined at (slots ++ s ∷ []) (length (bytes ++ more)) ≡ true
  lined_next at [] h =
      let ended : at ≤ length bytes = ends at [] (length bytes) h in
      let same : eqb at (length bytes) ≡ true = h in
      let here : eqb s.start at ≡ true = let start = n.start in grind (arith, nat_tests, start, same) in
      let capacity : s.row.capacity ≡ length more = ap (λ (row : Row). row.capacity) n.row ∙ sym n.room in
      let total = length-append bytes more in
      let end : eqb (at + s.row.capacity) (length (bytes ++ more)) ≡ true = grind (arith, nat_tests, same, capacity, total) in
      and_from (eqb s.start at) (eqb (at + s.row.capacity) (length (bytes ++ more))) here end
  lined_next at (slot ∷ slots) h =
      let begin = starts at slot slots (length bytes) h in
      let here : eqb slot.start at ≡ true = grind (arith, nat_tests, begin) in
      and_from (eqb slot.start at) (are_lined (at + slot.row.capacity) (slots ++ s ∷ []) (length (bytes ++ more))) here (lined_next (at + slot.row.capacity) slots (follow at slot slots (length bytes) h))

  pub entries_appended : (bytes' : List ℕ) (slots slots' : List Slot) → bytes' ≡ bytes ++ more → slots' ≡ slots ++ s ∷ [] → are_lined 0 slots (length bytes) ≡ true → entries_in bytes' bytes' slots' ≡ entries_in bytes bytes slots ++ e ∷ []
  entries_appended bytes' slots slots' b t h =
      ap (λ (l : List ℕ). entries_in l l slots') b ∙ ap (entries_in (bytes ++ more) (bytes ++ more)) t ∙ entries_next 0 slots h

  pub lined_appended : (bytes' : List ℕ) (slots slots' : List Slot) → bytes' ≡ bytes ++ more → slots' ≡ slots ++ s ∷ [] → are_lined 0 slots (length bytes) ≡ true → are_lined 0 slots' (length bytes') ≡ true
  lined_appended bytes' slots slots' b t h =
      ap (λ (l : List ℕ). are_lined 0 slots' (length l)) b ∙ ap (λ (l : List Slot). are_lined 0 l (length (bytes ++ more))) t ∙ lined_next 0 slots h

-- ---- the numbers of the keys

take_next : {X : Type 0} (xs : List X) (i : ℕ) (x : X) → i < length xs → x ≡ get_or xs i x → take (suc i) xs ≡ take i xs ++ x ∷ []
take_next [] i x within is = absurd (omega (arith, within))
take_next (y ∷ ys) zero x within is = ap (λ z. z ∷ []) (sym is)
take_next (y ∷ ys) (suc i) x within is = ap (λ zs. y ∷ zs) (take_next ys i x (omega (arith, within)) is)

module _ (slots : List Slot) (increasing : are_increasing (keys_of slots) ≡ true) (i : ℕ) (s : Slot) (within : i < length slots) (is : s ≡ get_or slots i s) where
  none_before : list_any (same_key s.key) (keys_of (take i slots)) ≡ false
  none_before = list_any_none (same_key s.key) (keys_of (take i slots)) (λ j d lt.
      let count : length (keys_of (take i slots)) ≡ i = length-map (take i slots) (λ (t : Slot). t.key) ∙ length-take-le i slots (omega (arith, within)) in
      let before : j < i = omega (arith, lt, count) in
      let earlier : Key = (get_or slots j s).key in
      let differs : same_key s.key earlier ≡ false =
      subst (λ (t : Slot). same_key t.key earlier ≡ false) (sym is)
      (other_compares earlier (get_or slots i s).key (ap is_eq (before_compares earlier (get_or slots i s).key (before_later (λ (t : Slot). t.key) slots j i s increasing before within)))) in
      ap (same_key s.key) (get_or-map (λ (t : Slot). t.key) (take i slots) j s d (let many = length-take-le i slots (omega (arith, within)) in omega (arith, before, many)) ∙ ap (λ (t : Slot). t.key) (get_or-take i slots j s before)) ∙ differs)

  pub next_number : (keys : List Key) → keys ≡ keys_of (take i slots) → insert_key same_key keys s.key ≡ keys_of (take (i + 1) slots)
  next_number keys h =
      let next : suc i ≡ i + 1 = omega arith in
      ap (λ (ks : List Key). insert_key same_key ks s.key) h
      ∙ ap (λ b. cond b (keys_of (take i slots)) (keys_of (take i slots) ++ s.key ∷ [])) none_before
      ∙ sym (map-append (λ (t : Slot). t.key) (take i slots) (s ∷ []))
      ∙ ap keys_of (sym (take_next slots i s within is))
      ∙ ap (λ n. keys_of (take n slots)) next

-- the keys of an image of rows in increasing key
pub rows_increase : (node : ℕ) (limits : Limits) (rows : List EntryRow) (bytes : List ℕ) (slots : List Slot) → entries_in bytes bytes slots ≡ map (entry_of node limits) (map row_view rows)
    → AllPairs (λ (e f : EntryRow). is_key_before e.key f.key ≡ true) rows → are_increasing (keys_of slots) ≡ true
rows_increase node limits rows bytes slots same increase =
    ap are_increasing (sym (keys_same bytes bytes slots) ∙ ap keys_in same ∙ keys_built node limits rows) ∙ keys_increase rows increase

-- the items of a vector of bytes are bytes
pub all_bytes : (bytes : List ℕ) → ((i d : ℕ) → i < length bytes → get_or bytes i d < 256) → AreBytes bytes
all_bytes [] h = tt
all_bytes (byte ∷ bytes) h = (h 0 byte (omega arith), all_bytes bytes (λ i d lt. h (suc i) d (omega (arith, lt))))

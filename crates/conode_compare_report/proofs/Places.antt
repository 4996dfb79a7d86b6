-- Where an entry is among rows in increasing key.
use Rattle.std.proofs.Common.{◌≡◌, ℕ, zero, suc, ◌+◌, ◌<◌, Bool, true, false, ltb, List, [], ◌∷◌, length, get_or, map, Some, None, Err, refl, sym, ap, ◌∙◌, subst, arith}
use Rattle.std.specs.Prelude.{position}
use Rattle.std.specs.List.{AllPairs, position_or_len}
use Rattle.std.specs.List.Sorted.{IsBinarySearchResult, IsNonDecreasingBy}
use Rattle.std.specs.Ordering.{ordering_index, is_eq}
use Rattle.std.specs.declared.cmp.Ordering.TheVariants.{Equal}
use Rattle.std.proofs.lemmas.Bool.Decides.{nat_tests}
use Rattle.std.proofs.lemmas.List.Sorted.{searchable_from_sorted}
use Rattle.co_value.specs.declared.key.Key.{Key}
use Rattle.co_value.specs.Keys.{same_key, same_key-refl, is_key_before, key_cmp, key_cmp_total, key_cmp_exact, is_lt-key_cmp}
use Rattle.co_sheet_rows.specs.declared.entry.EntryRow.{EntryRow}
use Rattle.co_sheet.specs.SheetViews.{row_view}
use Rattle.co_sheet_changes.proofs.Finds.{before_differs, after_isnt_before, other_differs}
use Rattle.conode_compare_report.specs.Coverages.{place_of}

-- ---- the place of the first element that passes

mapped_length : {X Y : Type 0} (view : X → Y) (xs : List X) → length (map view xs) ≡ length xs
mapped_length view [] = refl
mapped_length view (x ∷ xs) = ap suc (mapped_length view xs)

pub rows_counted : (rows : List EntryRow) → length (map row_view rows) ≡ length rows
rows_counted rows = mapped_length row_view rows

one_more : (a b : ℕ) → a ≡ b → 1 + a ≡ suc b
one_more a b h = omega (arith, h)

module _ {X Y : Type 0} (view : X → Y) (p : Y → Bool) where
  counted_at : (xs : List X) (i : ℕ) → i < length xs → ((k : ℕ) (d : X) → k < i → p (view (get_or xs k d)) ≡ false) → ((d : X) → p (view (get_or xs i d)) ≡ true) → position_or_len p (map view xs) ≡ i
  counted_at [] i lt before here = absurd (omega (arith, lt))
  counted_at (x ∷ xs) zero lt before here = rw (here x) refl
  counted_at (x ∷ xs) (suc i) lt before here =
      rw (before zero x (omega arith)) (one_more (position_or_len p (map view xs)) i (counted_at xs i (omega (arith, lt)) (λ k d less. before (suc k) d (omega (arith, less))) here))

  counted_all : (xs : List X) → ((k : ℕ) (d : X) → k < length xs → p (view (get_or xs k d)) ≡ false) → position_or_len p (map view xs) ≡ length (map view xs)
  counted_all [] none = refl
  counted_all (x ∷ xs) none =
      rw (none zero x (omega arith)) (one_more (position_or_len p (map view xs)) (length (map view xs)) (counted_all xs (λ k d less. none (suc k) d (omega (arith, less)))))

  pub place_at : (xs : List X) (i : ℕ) → i < length xs → ((k : ℕ) (d : X) → k < i → p (view (get_or xs k d)) ≡ false) → ((d : X) → p (view (get_or xs i d)) ≡ true) → position p (map view xs) ≡ Some i
  place_at xs i lt before here =
      let counted : position_or_len p (map view xs) ≡ i = counted_at xs i lt before here in
      let within : ltb i (length (map view xs)) ≡ true = rw (mapped_length view xs) (grind (arith, nat_tests)) in
      rw (counted, within) refl

  pub no_place : (xs : List X) → ((k : ℕ) (d : X) → k < length xs → p (view (get_or xs k d)) ≡ false) → position p (map view xs) ≡ None
  no_place xs none =
      let counted : position_or_len p (map view xs) ≡ length (map view xs) = counted_all xs none in
      let past : ltb (length (map view xs)) (length (map view xs)) ≡ false = grind (arith, nat_tests) in
      rw (counted, past) refl

-- ---- among rows

module _ (rows : List EntryRow) (increase : AllPairs (λ (e : EntryRow) (f : EntryRow). is_key_before e.key f.key ≡ true) rows) (key : Key) where
  comparisons_rise : IsNonDecreasingBy (λ (r : EntryRow). ordering_index (key_cmp r.key key)) rows
  comparisons_rise = searchable_from_sorted key_cmp_total (λ (r : EntryRow). r.key) rows key
      (λ k d low high. is_lt-key_cmp (get_or rows (k + 1) d).key (get_or rows k d).key ∙ after_isnt_before (get_or rows k d).key (get_or rows (k + 1) d).key (increase k (k + 1) d (omega arith) high))

  pub row_place : (place : ℕ) → place < length rows → ((d : EntryRow) → key_cmp (get_or rows place d).key key ≡ Equal) → place_of (map row_view rows) key ≡ Some place
  row_place place lt equal =
      place_at row_view (λ row. same_key row.key key) rows place lt
      (λ k d before. subst (λ (q : Key). same_key (get_or rows k d).key q ≡ false) (key_cmp_exact (get_or rows place d).key key (equal d))
      (before_differs (get_or rows k d).key (get_or rows place d).key (increase k place d before lt)))
      (λ d. subst (λ (q : Key). same_key q key ≡ true) (sym (key_cmp_exact (get_or rows place d).key key (equal d))) (same_key-refl key))

  pub row_missing : (place : ℕ) → IsBinarySearchResult (λ (r : EntryRow). key_cmp r.key key) rows (Err place) → place_of (map row_view rows) key ≡ None
  row_missing place parted = no_place row_view (λ row. same_key row.key key) rows (λ k d lt. by_side k d lt (ltb k place) refl)
    where
      by_side : (k : ℕ) (d : EntryRow) → k < length rows → (b : Bool) → ltb k place ≡ b → same_key (get_or rows k d).key key ≡ false
      by_side k d lt true h = other_differs (get_or rows k d).key key (ap is_eq ((parted comparisons_rise).0 k d (omega arith) (grind (arith, nat_tests))))
      by_side k d lt false h = other_differs (get_or rows k d).key key (ap is_eq ((parted comparisons_rise).1 k d (grind (arith, nat_tests)) lt))

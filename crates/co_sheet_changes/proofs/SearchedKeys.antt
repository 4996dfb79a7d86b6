-- What a binary search over rows in increasing key finds.
use Rattle.std.proofs.Common.{◌≡◌, ℕ, ◌+◌, ◌<◌, Bool, true, false, ltb, List, length, get_or, map, Some, None, Err, refl, sym, ap, ◌∙◌, subst, arith}
use Rattle.std.specs.List.{AllPairs}
use Rattle.std.specs.List.Sorted.{IsBinarySearchResult, IsNonDecreasingBy}
use Rattle.std.specs.Ordering.{ordering_index, is_eq}
use Rattle.std.specs.declared.cmp.Ordering.TheVariants.{Equal}
use Rattle.std.proofs.lemmas.Bool.Decides.{nat_tests}
use Rattle.std.proofs.lemmas.List.Sorted.{searchable_from_sorted}
use Rattle.co_value.specs.declared.key.Key.{Key}
use Rattle.co_value.specs.Keys.{same_key, same_key-refl, is_key_before, key_cmp, key_cmp_total, key_cmp_exact, is_lt-key_cmp}
use Rattle.co_sheet_rows.specs.declared.entry.EntryRow.{EntryRow}
use Rattle.co_sheet.specs.SheetViews.{row_view}
use Rattle.co_sheet_changes.specs.Names.{row_at}
use Rattle.co_sheet_changes.proofs.Finds.{before_differs, after_isnt_before, other_differs, first_at, nowhere}

abbrev pub Increase : List EntryRow → Type 0
Increase rows = AllPairs (λ e f. is_key_before e.key f.key ≡ true) rows

module _ (rows : List EntryRow) (increase : Increase rows) (key : Key) where
  comparisons_rise : IsNonDecreasingBy (λ (r : EntryRow). ordering_index (key_cmp r.key key)) rows
  comparisons_rise = searchable_from_sorted key_cmp_total (λ (r : EntryRow). r.key) rows key
      (λ k d low high. is_lt-key_cmp (get_or rows (k + 1) d).key (get_or rows k d).key ∙ after_isnt_before (get_or rows k d).key (get_or rows (k + 1) d).key (increase k (k + 1) d (omega arith) high))

  pub row_found : (place : ℕ) → place < length rows → ((d : EntryRow) → key_cmp (get_or rows place d).key key ≡ Equal) → (d : EntryRow) → row_at (map row_view rows) key ≡ Some (row_view (get_or rows place d))
  row_found place lt equal d =
      let here : (get_or rows place d).key ≡ key = key_cmp_exact (get_or rows place d).key key (equal d) in
      first_at row_view (λ row. same_key row.key key) rows place d lt
      (λ k before. subst (λ (q : Key). same_key (get_or rows k d).key q ≡ false) here (before_differs (get_or rows k d).key (get_or rows place d).key (increase k place d before lt)))
      (subst (λ (q : Key). same_key q key ≡ true) (sym here) (same_key-refl key))

  pub row_absent : (place : ℕ) → IsBinarySearchResult (λ (r : EntryRow). key_cmp r.key key) rows (Err place) → row_at (map row_view rows) key ≡ None
  row_absent place parted = nowhere row_view (λ row. same_key row.key key) rows (λ k d lt. by_side k d lt (ltb k place) refl)
    where
      by_side : (k : ℕ) (d : EntryRow) → k < length rows → (b : Bool) → ltb k place ≡ b → same_key (get_or rows k d).key key ≡ false
      by_side k d lt true h = other_differs (get_or rows k d).key key (ap is_eq ((parted comparisons_rise).0 k d (omega arith) (grind (arith, nat_tests))))
      by_side k d lt false h = other_differs (get_or rows k d).key key (ap is_eq ((parted comparisons_rise).1 k d (grind (arith, nat_tests)) lt))

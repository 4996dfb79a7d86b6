-- Where a binary search by key finds what it looks for.
use Rattle.std.proofs.lemmas.Bool.{and_parts}
use Rattle.std.proofs.Common.{◌≡◌, ℕ, zero, suc, ◌+◌, ◌<◌, ◌≤◌, Bool, true, false, cond, ◌&&◌, ◌||◌, eqb, ltb, List, [], ◌∷◌, length, get_or, map, Some, None, Result, Ok, Err, refl, sym, ap, ◌∙◌, subst, arith}
use Rattle.std.specs.Prelude.{position, nat_lt}
use Rattle.std.specs.List.{list_all}
use Rattle.std.specs.List.Sorted.{IsSearchInRange, IsBinarySearchResult, IsNonDecreasingBy}
use Rattle.std.specs.Ordering.{nat_cmp, ordering_then, ordering_index, ordering_reverse, is_lt, is_eq}
use Rattle.std.specs.Cmp.{IsTotalOrder, nat_cmp_total}
use Rattle.std.specs.Result.{result_ok}
use Rattle.std.specs.declared.cmp.Ordering.{Ordering}
use Rattle.std.specs.declared.cmp.Ordering.TheVariants.{Less, Equal, Greater}
use Rattle.std.proofs.lemmas.Bool.Decides.{nat_tests}
use Rattle.std.proofs.lemmas.Cmp.{on_total, then_total, tied_itself}
use Rattle.std.proofs.lemmas.List.Sums.{position_or_len_is}
use Rattle.std.proofs.lemmas.List.Sorted.{searchable_from_sorted}
use Rattle.co_value.specs.declared.key.Key.{Key}
use Rattle.co_value.specs.Keys.{same_key, is_key_before}
use Rattle.co_dict_build.specs.ListedEntries.{are_increasing}
use Rattle.co_dict_build.specs.LawfulLists.{equal_keys}

-- the order of keys that `Key` derives
abbrev pub key_cmp : Key → Key → Ordering
key_cmp a b = ordering_then (nat_cmp a.index b.index) (nat_cmp a.sub b.sub)

key_cmp_total : IsTotalOrder key_cmp
key_cmp_total = then_total (on_total (λ k. k.index) nat_cmp_total) (on_total (λ k. k.sub) nat_cmp_total)

-- ---- what a comparison of keys says, by the tests of both numbers

by_tests : Bool → Bool → Bool → Bool → Ordering
by_tests less same less' same' = ordering_then (cond less Less (cond same Equal Greater)) (cond less' Less (cond same' Equal Greater))

less_by_tests : (less same less' same' : Bool) → (less || (same && less')) ≡ true → by_tests less same less' same' ≡ Less
unfolding by_tests
less_by_tests true same less' same' h = refl
less_by_tests false true true same' h = refl
less_by_tests false true false same' h = absurd cc
less_by_tests false false less' same' h = absurd cc

equal_by_tests : (less same less' same' : Bool) → by_tests less same less' same' ≡ Equal → (same && same') ≡ true
unfolding by_tests
equal_by_tests true same less' same' h = absurd cc
equal_by_tests false true true same' h = absurd cc
equal_by_tests false true false true h = refl
equal_by_tests false true false false h = absurd cc
equal_by_tests false false less' same' h = absurd cc

-- keys that compare as equal are equal
equal_compares : (a b : Key) → key_cmp a b ≡ Equal → a ≡ b
unfolding by_tests
equal_compares a b h = equal_keys a b (equal_by_tests (ltb a.index b.index) (eqb a.index b.index) (ltb a.sub b.sub) (eqb a.sub b.sub) h)

pub before_compares : (a b : Key) → is_key_before a b ≡ true → key_cmp a b ≡ Less
unfolding by_tests
before_compares a b h = less_by_tests (ltb a.index b.index) (eqb a.index b.index) (ltb a.sub b.sub) (eqb a.sub b.sub) h

pub after_compares : (a b : Key) → is_key_before a b ≡ true → key_cmp b a ≡ Greater
after_compares a b h = key_cmp_total.antisymm b a ∙ ap ordering_reverse (before_compares a b h)

pub same_itself : (key : Key) → same_key key key ≡ true
same_itself key = grind (arith, nat_tests)

-- a key that doesn't compare as equal is another
pub other_compares : (a b : Key) → is_eq (key_cmp a b) ≡ false → same_key b a ≡ false
other_compares a b h = by_same (same_key b a) refl
  where
    by_same : (same : Bool) → same_key b a ≡ same → same ≡ false
    by_same false same = refl
    by_same true same = sym (ap is_eq (tied_itself key_cmp_total a)) ∙ subst (λ k. is_eq (key_cmp a k) ≡ false) (equal_keys b a same) h

-- ---- a list in increasing key

module _ {X : Type 0} (key_of : X → Key) where
  all_after : (key : Key) (xs : List X) (k : ℕ) (d : X) → list_all (is_key_before key) (map key_of xs) ≡ true → k < length xs → is_key_before key (key_of (get_or xs k d)) ≡ true
  all_after key [] k d h lt = absurd (omega arith)
  all_after key (x ∷ xs) zero d h lt = (and_parts (is_key_before key (key_of x)) (list_all (is_key_before key) (map key_of xs)) h).0
  all_after key (x ∷ xs) (suc k) d h lt = all_after key xs k d (and_parts (is_key_before key (key_of x)) (list_all (is_key_before key) (map key_of xs)) h).1 (omega arith)

  -- an element is before all that come after it
  pub before_later : (xs : List X) (i j : ℕ) (d : X) → are_increasing (map key_of xs) ≡ true → i < j → j < length xs → is_key_before (key_of (get_or xs i d)) (key_of (get_or xs j d)) ≡ true
  before_later [] i j d h lt within = absurd (omega arith)
  before_later (x ∷ xs) i zero d h lt within = absurd (omega arith)
  before_later (x ∷ xs) zero (suc j) d h lt within = all_after (key_of x) xs j d (and_parts (list_all (is_key_before (key_of x)) (map key_of xs)) (are_increasing (map key_of xs)) h).0 (omega arith)
  before_later (x ∷ xs) (suc i) (suc j) d h lt within = before_later xs i j d (and_parts (list_all (is_key_before (key_of x)) (map key_of xs)) (are_increasing (map key_of xs)) h).1 (omega arith) (omega arith)

module _ {X : Type 0} (key_of : X → Key) (xs : List X) (increasing : are_increasing (map key_of xs) ≡ true) (key : Key) where
  comparisons_rise : IsNonDecreasingBy (λ x. ordering_index (key_cmp (key_of x) key)) xs
  comparisons_rise = searchable_from_sorted key_cmp_total key_of xs key
      (λ k d low high. ap is_lt (after_compares (key_of (get_or xs k d)) (key_of (get_or xs (k + 1) d)) (before_later key_of xs k (k + 1) d increasing (omega arith) high)))

  -- where each of the elements before a place has another key, and the one at it, if there is one, has the key
  pub position_is : (at : ℕ) (d : X) → at ≤ length xs → ((k : ℕ) → k < at → same_key key (key_of (get_or xs k d)) ≡ false) → (at < length xs → same_key key (key_of (get_or xs at d)) ≡ true)
      → position (λ x. same_key key (key_of x)) xs ≡ cond (nat_lt at (length xs)) (Some at) None
  position_is at d le before here = ap (λ i. cond (nat_lt i (length xs)) (Some i) None) (position_or_len_is (λ x. same_key key (key_of x)) xs at d le before here)

  found_at : (found : Result ℕ ℕ) (d : X) → IsSearchInRange found (length xs) → IsBinarySearchResult (λ x. key_cmp (key_of x) key) xs found → result_ok found ≡ position (λ x. same_key key (key_of x)) xs
  found_at (Ok at) d within equal =
      let key_here : key_of (get_or xs at d) ≡ key = equal_compares (key_of (get_or xs at d)) key (equal d) in
      let test : ltb at (length xs) ≡ true = grind (arith, nat_tests) in
      sym (position_is at d (omega arith)
      (λ k lt. other_compares (key_of (get_or xs k d)) key (ap is_eq (before_compares (key_of (get_or xs k d)) key (subst (λ later. is_key_before (key_of (get_or xs k d)) later ≡ true) key_here (before_later key_of xs k at d increasing lt within)))))
      (λ lt. subst (λ k. same_key key k ≡ true) (sym key_here) (same_itself key))
      ∙ ap (λ b. cond b (Some at) None) test)
  found_at (Err at) d within parted =
      let test : ltb (length xs) (length xs) ≡ false = grind (arith, nat_tests) in
      sym (position_is (length xs) d (omega arith) (λ k lt. by_side k lt (ltb k at) refl) (λ lt. absurd (omega arith)) ∙ ap (λ b. cond b (Some (length xs)) None) test)
    where
      by_side : (k : ℕ) → k < length xs → (b : Bool) → ltb k at ≡ b → same_key key (key_of (get_or xs k d)) ≡ false
      by_side k lt true h = other_compares (key_of (get_or xs k d)) key (ap is_eq ((parted comparisons_rise).0 k d (omega arith) (grind (arith, nat_tests))))
      by_side k lt false h = other_compares (key_of (get_or xs k d)) key (ap is_eq ((parted comparisons_rise).1 k d (grind (arith, nat_tests)) lt))

-- a binary search by key finds the place of the element that has the key
pub searched : {X : Type 0} (key_of : X → Key) (xs : List X) → are_increasing (map key_of xs) ≡ true → (key : Key) (found : Result ℕ ℕ)
    → IsSearchInRange found (length xs) → IsBinarySearchResult (λ x. key_cmp (key_of x) key) xs found → result_ok found ≡ position (λ x. same_key key (key_of x)) xs
searched key_of [] increasing key (Ok at) within result = absurd (omega arith)
searched key_of [] increasing key (Err at) within result = refl
searched key_of (x ∷ xs) increasing key found within result = found_at key_of (x ∷ xs) increasing key found x within result

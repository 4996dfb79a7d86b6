-- Spans that are joined, and filled up.
use Rattle.std.proofs.Common.{◌≡◌, ℕ, zero, suc, ◌+◌, ◌-◌, ◌<◌, ◌≤◌, true, false, ltb, List, [], ◌∷◌, ◌++◌, length, min, take, drop, get_or, set, replicate, refl, sym, ap, ◌∙◌, arith, append-nil, append_assoc}
use Rattle.std.proofs.Math.Seq.{drop-cons}
use Rattle.std.proofs.lemmas.Bool.Decides.{nat_tests}
use Rattle.std.proofs.lemmas.List.{drop_all, drop-set-lt, take_more_set}
use Rattle.conode_compare_report.specs.declared.lanes.Bin.{Bin}
use Rattle.conode_compare_report.specs.Spans.{LanesView, both_bins, doubled, empty_bin, filled, joined, place_in, widened}

-- ---- joined two by two, in place

module _ (bins : List Bin) (count next : ℕ) (d : Bin) (all : List Bin) where
  abbrev two : Bin
  two = both_bins (get_or bins next d) (get_or bins (next + 1) d)

  next_two : next + 1 < length bins → joined (drop next bins) ≡ two ∷ joined (drop (next + 2) bins)
  unfolding joined
  next_two h =
      let first : next < length bins = omega (arith, h) in
      let second : suc next < length bins = omega (arith, h) in
      let one_on : next + 1 ≡ suc next = omega arith in
      let two_on : next + 2 ≡ suc (suc next) = omega arith in
      rw (one_on, two_on, drop-cons bins next d, drop-cons bins (suc next) d) refl

  pub two_joined : count ≤ next → next + 1 < length bins → take count bins ++ joined (drop next bins) ≡ all
      → take (count + 1) (set bins count two) ++ joined (drop (next + 2) (set bins count two)) ≡ all
  two_joined le h so_far =
      let within : count < length bins = omega (arith, le, h) in
      let before : count < next + 2 = omega (arith, le) in
      rw (take_more_set bins count two within, drop-set-lt (next + 2) bins count two before)
      (append_assoc (take count bins) (two ∷ []) (joined (drop (next + 2) bins)) ∙ ap (λ xs. take count bins ++ xs) (sym (next_two h)) ∙ so_far)

  last_one : next < length bins → length bins ≤ next + 1 → joined (drop next bins) ≡ get_or bins next d ∷ []
  unfolding joined
  last_one h le =
      let past : length bins ≤ suc next = omega (arith, le) in
      rw (drop-cons bins next d, drop_all (suc next) bins past) refl

  pub last_joined : count ≤ next → next < length bins → length bins ≤ next + 1 → take count bins ++ joined (drop next bins) ≡ all
      → take (count + 1) (set bins count (get_or bins next d)) ≡ all
  last_joined le h past so_far =
      let within : count < length bins = omega (arith, le, h) in
      take_more_set bins count (get_or bins next d) within ∙ ap (λ xs. take count bins ++ xs) (sym (last_one h past)) ∙ so_far

  pub all_joined : length bins ≤ next → take count bins ++ joined (drop next bins) ≡ all → take count bins ≡ all
  unfolding joined
  all_joined le so_far =
      let none : joined (drop next bins) ≡ [] = ap joined (drop_all next bins le) in
      sym (append-nil (take count bins)) ∙ ap (λ xs. take count bins ++ xs) (sym none) ∙ so_far

-- a place past the end
pub dropped_within : {A : Type 0} (n : ℕ) (xs : List A) → drop (min n (length xs)) xs ≡ drop n xs
dropped_within zero xs = let none : min 0 (length xs) ≡ 0 = omega arith in ap (λ (k : ℕ). drop k xs) none
dropped_within (suc n) [] = let none : min (suc n) 0 ≡ 0 = omega arith in ap (λ (k : ℕ). drop k []) none
dropped_within (suc n) (x ∷ xs) =
    let less : min (suc n) (suc (length xs)) ≡ suc (min n (length xs)) = omega arith in
    ap (λ (k : ℕ). drop k (x ∷ xs)) less ∙ dropped_within n xs

-- ---- steps

pub one_step : (steps passed : ℕ) (lanes : LanesView) → 0 < steps → 2000 ≤ place_in lanes.width passed → widened (steps - 1) passed (doubled lanes) ≡ widened steps passed lanes
unfolding widened
one_step zero passed lanes some far = absurd (omega (arith, some))
one_step (suc steps) passed lanes some far = let is : ltb (place_in lanes.width passed) 2000 ≡ false = grind (arith, nat_tests) in
    let less : suc steps - 1 ≡ steps = omega arith in
    rw (is, less) refl

pub no_more : (steps passed : ℕ) (lanes : LanesView) → steps ≤ 0 → widened steps passed lanes ≡ lanes
unfolding widened
no_more zero passed lanes none = refl
no_more (suc steps) passed lanes none = absurd (omega (arith, none))

pub no_step : (steps passed : ℕ) (lanes : LanesView) → place_in lanes.width passed < 2000 → widened steps passed lanes ≡ lanes
unfolding widened
no_step zero passed lanes near = refl
no_step (suc steps) passed lanes near = let is : ltb (place_in lanes.width passed) 2000 ≡ true = grind (arith, nat_tests) in rw is refl

-- ---- filled up

taken_all : {A : Type 0} (n : ℕ) (xs : List A) → length xs ≤ n → take n xs ≡ xs
taken_all zero [] le = refl
taken_all (suc n) [] le = refl
taken_all zero (x ∷ xs) le = absurd (omega (arith, le))
taken_all (suc n) (x ∷ xs) le = ap (λ (l : List _). x ∷ l) (taken_all n xs (omega (arith, le)))

pub enough : (place : ℕ) (bins : List Bin) → place < length bins → bins ≡ filled place bins
enough place bins lt = let none : place + 1 - length bins ≡ 0 = omega (arith, lt) in rw none (sym (append-nil bins))

pub more : (place : ℕ) (bins : List Bin) → length bins ≤ place → take (place + 1) bins ++ replicate (place + 1 - length bins) empty_bin ≡ filled place bins
more place bins le = ap (λ (l : List Bin). l ++ replicate (place + 1 - length bins) empty_bin) (taken_all (place + 1) bins (omega (arith, le)))

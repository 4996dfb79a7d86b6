-- A stable sort by a number keeps those of each number as they were.
use Rattle.std.proofs.Common.{◌≡◌, ℕ, ◌≤◌, Bool, true, false, cond, not, ◌&&◌, List, [], ◌∷◌, refl, ap, ◌∙◌, arith, ltb, eqb}
use Rattle.std.proofs.lemmas.Bool.Decides.{nat_tests}
use Rattle.std.specs.List.{filter}
use Rattle.std.specs.Ordering.{nat_cmp, is_lt}
use Rattle.std.specs.declared.cmp.Ordering.TheVariants.{Less, Equal, Greater}

less_cases : (less same : Bool) → is_lt (cond less Less (cond same Equal Greater)) ≡ less
less_cases true same = refl
less_cases false true = refl
less_cases false false = refl

is_lt-number : (a b : ℕ) → is_lt (nat_cmp a b) ≡ ltb a b
is_lt-number a b = less_cases (ltb a b) (eqb a b)

ties-number : (a b : ℕ) → (not (ltb a b) && not (ltb b a)) ≡ eqb b a
ties-number a b = grind (arith, nat_tests)

-- values tie with one exactly where they have its number
pub ties-same : (a b : ℕ) → (not (is_lt (nat_cmp a b)) && not (is_lt (nat_cmp b a))) ≡ eqb b a
ties-same a b = ap (λ p. not p && not (is_lt (nat_cmp b a))) (is_lt-number a b) ∙ ap (λ p. not (ltb a b) && not p) (is_lt-number b a) ∙ ties-number a b

pub filter-alike : {X : Type 0} (p q : X → Bool) → ((x : X) → p x ≡ q x) → (xs : List X) → filter p xs ≡ filter q xs
filter-alike p q same [] = refl
filter-alike p q same (x ∷ xs) = ap (λ b. cond b (x ∷ filter p xs) (filter p xs)) (same x) ∙ ap (λ l. cond (q x) (x ∷ l) l) (filter-alike p q same xs)

-- a size within a limit
pub within : (limit size : ℕ) → size ≤ limit → ltb limit size ≡ false
within limit size h = grind (arith, nat_tests)

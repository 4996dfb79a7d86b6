-- Countdowns and the numbers that they count.
use Rattle.std.proofs.Common.{◌≡◌, ℕ, ◌+◌, ◌-◌, ◌<◌, ◌⊎◌, inl, inr, Bool, true, false, cond, ltb, eqb, leb, refl, ap, ◌∙◌, arith, add-one}
use Rattle.std.specs.Prelude.{◌%◌, List, [], ◌∷◌, map}
use Rattle.std.proofs.Math.Nat.{suc-mod, mod_self, mod-eq_of_lt, mod-lt}
use Rattle.std.proofs.lemmas.Bool.Decides.{nat_tests}
use Rattle.co_pdo.specs.Countdowns.{left_of}

-- one more, modulo k: it goes around, or it is one more
pub next_mod : (n k : ℕ) → 0 < k → ((n % k + 1 ≡ k) × ((n + 1) % k ≡ 0)) ⊎ ((n % k + 1 < k) × ((n + 1) % k ≡ n % k + 1))
next_mod n k h = by_test (ltb (n % k + 1) k) refl
  where
    step : (n + 1) % k ≡ (n % k + 1) % k
    step = rw (add-one, suc-mod n k, add-one) refl

    by_test : (b : Bool) → ltb (n % k + 1) k ≡ b → ((n % k + 1 ≡ k) × ((n + 1) % k ≡ 0)) ⊎ ((n % k + 1 < k) × ((n + 1) % k ≡ n % k + 1))
    by_test true e = let lt : n % k + 1 < k = grind (arith, nat_tests) in inr (lt, step ∙ mod-eq_of_lt lt)
    by_test false e =
        let below : n % k < k = mod-lt n h in
        let same : n % k + 1 ≡ k = grind (arith, nat_tests) in
        inl (same, step ∙ ap (λ m. m % k) same ∙ mod_self k)

-- the countdown of a SYNC that is a multiple is at its last
pub last_sync : (n k : ℕ) → 0 < k → leb (k - n % k) 1 ≡ eqb ((n + 1) % k) 0
last_sync n k h = elim (next_mod n k h) [
  | inl e ↦ let b : n % k + 1 ≡ k = e.0 in let z : (n + 1) % k ≡ 0 = e.1 in grind (arith, nat_tests)
  | inr e ↦ let b : n % k + 1 < k = e.0 in let z : (n + 1) % k ≡ n % k + 1 = e.1 in grind (arith, nat_tests)
]

-- the countdown after a SYNC
pub next_sync : (n k : ℕ) → cond (leb (k - n % k) 1) k (k - n % k - 1) ≡ k - (n + 1) % k
next_sync n k = by_test (ltb 0 k) refl
  where
    by_test : (b : Bool) → ltb 0 k ≡ b → cond (leb (k - n % k) 1) k (k - n % k - 1) ≡ k - (n + 1) % k
    by_test false e = let z : k ≡ 0 = grind (arith, nat_tests) in grind (arith, nat_tests)
    by_test true e = let h : 0 < k = grind (arith, nat_tests) in elim (next_mod n k h) [
      | inl e ↦ let b : n % k + 1 ≡ k = e.0 in let z : (n + 1) % k ≡ 0 = e.1 in grind (arith, nat_tests)
      | inr e ↦ let b : n % k + 1 < k = e.0 in let z : (n + 1) % k ≡ n % k + 1 = e.1 in grind (arith, nat_tests)
    ]

-- one tick later
pub left-tick : (time : ℕ) (ages : List ℕ) → left_of time ages - 1 ≡ left_of time (map (λ n. n + 1) ages)
left-tick time [] = omega arith
left-tick time (n ∷ older) = omega arith

-- the last tick of a period
pub last_tick : (period n : ℕ) → eqb (period - n) 1 ≡ eqb (n + 1) period
last_tick period n = grind (arith, nat_tests)

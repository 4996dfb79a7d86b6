-- What a binary search by key finds.
use Rattle.std.proofs.Common.{◌≡◌, ℕ, zero, suc, ◌<◌, Bool, true, false, ◌&&◌, ◌||◌, eqb, ltb, List, [], ◌∷◌, length, get_or, map, Some, None, refl, sym, ◌∙◌, arith}
use Rattle.std.specs.Prelude.{find}
use Rattle.std.specs.Ordering.{is_eq}
use Rattle.std.proofs.lemmas.Bool.Decides.{nat_tests}
use Rattle.co_value.specs.declared.key.Key.{Key}
use Rattle.co_value.specs.Keys.{same_key, is_key_before, key_cmp, is_eq-key_cmp}

-- ---- keys that compare

before_by_tests : (less same same' less' : Bool) → (less ≡ true → same ≡ false) → (less' ≡ true → same' ≡ false) → (less || (same && less')) ≡ true → (same && same') ≡ false
before_by_tests true same same' less' h k before = rw (h refl) refl
before_by_tests false true same' less' h k before = k before
before_by_tests false false same' less' h k before = refl

-- a key is not the same as one that it goes before
pub before_differs : (a b : Key) → is_key_before a b ≡ true → same_key a b ≡ false
before_differs a b h =
    before_by_tests (ltb a.index b.index) (eqb a.index b.index) (eqb a.sub b.sub) (ltb a.sub b.sub) (λ e. grind (arith, nat_tests)) (λ e. grind (arith, nat_tests)) h

after_by_tests : (less same less' more more' : Bool) → (less ≡ true → same ≡ false) → (less ≡ true → more ≡ false) → (same ≡ true → more ≡ false) → (less' ≡ true → more' ≡ false) → (less || (same && less')) ≡ true → (more || (same && more')) ≡ false
after_by_tests true same less' more more' h k l m before = rw (k refl, h refl) refl
after_by_tests false true less' more more' h k l m before = rw (l refl, m before) refl
after_by_tests false false less' more more' h k l m before = absurd cc

-- a key doesn't go before one that goes before it
pub after_isnt_before : (a b : Key) → is_key_before a b ≡ true → is_key_before b a ≡ false
after_isnt_before a b h =
    let indices : eqb b.index a.index ≡ eqb a.index b.index = grind (arith, nat_tests) in
    rw indices (after_by_tests (ltb a.index b.index) (eqb a.index b.index) (ltb a.sub b.sub) (ltb b.index a.index) (ltb b.sub a.sub)
    (λ e. grind (arith, nat_tests)) (λ e. grind (arith, nat_tests)) (λ e. grind (arith, nat_tests)) (λ e. grind (arith, nat_tests)) h)

-- a key is not the same as one that it doesn't compare as equal with
pub other_differs : (a b : Key) → is_eq (key_cmp a b) ≡ false → same_key a b ≡ false
other_differs a b h = sym (is_eq-key_cmp a b) ∙ h

-- ---- the first element that passes

module _ {X Y : Type 0} (view : X → Y) (p : Y → Bool) where
  pub first_at : (xs : List X) (i : ℕ) (d : X) → i < length xs → ((k : ℕ) → k < i → p (view (get_or xs k d)) ≡ false) → p (view (get_or xs i d)) ≡ true → find p (map view xs) ≡ Some (view (get_or xs i d))
  first_at [] i d lt before here = absurd (omega arith)
  first_at (x ∷ xs) zero d lt before here = rw here refl
  first_at (x ∷ xs) (suc i) d lt before here = rw (before zero (omega arith)) (first_at xs i d (omega arith) (λ k lt. before (suc k) (omega arith)) here)

  pub nowhere : (xs : List X) → ((k : ℕ) (d : X) → k < length xs → p (view (get_or xs k d)) ≡ false) → find p (map view xs) ≡ None
  nowhere [] none = refl
  nowhere (x ∷ xs) none = rw (none zero x (omega arith)) (nowhere xs (λ k d lt. none (suc k) d (omega arith)))

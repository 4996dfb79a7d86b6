-- The numbers of TPDOs: increasing, so that each is at one place.
use Rattle.std.proofs.Common.{◌≡◌, ℕ, zero, suc, ◌+◌, ◌<◌, ◌≤◌, Bool, true, false, cond, ltb, List, [], ◌∷◌, length, map, get_or, Some, None, refl, sym, ◌∙◌, subst, arith}
use Rattle.std.specs.Prelude.{not, position}
use Rattle.std.specs.List.{filter, range_with_len, prefix_len, position_or_len}
use Rattle.std.proofs.lemmas.List.{length-map}
use Rattle.std.proofs.lemmas.Bool.Decides.{nat_tests}
use Rattle.co_pdo.specs.declared.tpdo.Tpdo.{Tpdo}
use Rattle.co_pdo.proofs.Lists.{number_at_place}

-- the numbers of a range that pass a test are from its first number on
at_least : (p : ℕ → Bool) (a n i : ℕ) → i < length (filter p (range_with_len a n)) → a ≤ get_or (filter p (range_with_len a n)) i 0
at_least p a zero i lt = absurd (omega arith)
at_least p a (suc n) i lt = by_test (p a) i lt (λ j below. at_least p (a + 1) n j below)
  where
    by_test : (b : Bool) (i : ℕ) → i < length (cond b (a ∷ filter p (range_with_len (a + 1) n)) (filter p (range_with_len (a + 1) n)))
        → ((j : ℕ) → j < length (filter p (range_with_len (a + 1) n)) → a + 1 ≤ get_or (filter p (range_with_len (a + 1) n)) j 0)
        → a ≤ get_or (cond b (a ∷ filter p (range_with_len (a + 1) n)) (filter p (range_with_len (a + 1) n))) i 0
    by_test true zero lt more = omega arith
    by_test true (suc i) lt more = let h : a + 1 ≤ get_or (filter p (range_with_len (a + 1) n)) i 0 = more i (omega arith) in omega arith
    by_test false i lt more = let h : a + 1 ≤ get_or (filter p (range_with_len (a + 1) n)) i 0 = more i lt in omega arith

-- they are increasing
increasing : (p : ℕ → Bool) (a n i j : ℕ) → i < j → j < length (filter p (range_with_len a n)) → get_or (filter p (range_with_len a n)) i 0 < get_or (filter p (range_with_len a n)) j 0
increasing p a zero i j less lt = absurd (omega arith)
increasing p a (suc n) i j less lt = by_test (p a) i j less lt (λ k below. at_least p (a + 1) n k below) (λ k l apart below. increasing p (a + 1) n k l apart below)
  where
    by_test : (b : Bool) (i j : ℕ) → i < j → j < length (cond b (a ∷ filter p (range_with_len (a + 1) n)) (filter p (range_with_len (a + 1) n)))
        → ((k : ℕ) → k < length (filter p (range_with_len (a + 1) n)) → a + 1 ≤ get_or (filter p (range_with_len (a + 1) n)) k 0)
        → ((k l : ℕ) → k < l → l < length (filter p (range_with_len (a + 1) n)) → get_or (filter p (range_with_len (a + 1) n)) k 0 < get_or (filter p (range_with_len (a + 1) n)) l 0)
        → get_or (cond b (a ∷ filter p (range_with_len (a + 1) n)) (filter p (range_with_len (a + 1) n))) i 0 < get_or (cond b (a ∷ filter p (range_with_len (a + 1) n)) (filter p (range_with_len (a + 1) n))) j 0
    by_test true i zero less lt from more = absurd (omega arith)
    by_test true zero (suc j) less lt from more = let h : a + 1 ≤ get_or (filter p (range_with_len (a + 1) n)) j 0 = from j (omega arith) in omega arith
    by_test true (suc i) (suc j) less lt from more = more i j (omega arith) (omega arith)
    by_test false i j less lt from more = more i j less lt

-- a number is at one place
one_place : (p : ℕ → Bool) (n : ℕ) (xs : List ℕ) → xs ≡ filter p (range_with_len 0 n) → (i j : ℕ) → i < length xs → j < length xs → get_or xs i 0 ≡ get_or xs j 0 → i ≡ j
one_place p n xs e i j li lj same = by_tests (ltb i j) refl (ltb j i) refl
  where
    up : (k l : ℕ) → k < l → l < length xs → get_or xs k 0 < get_or xs l 0
    up k l less lt = rw e (increasing p 0 n k l less (subst (λ ys. l < length ys) e lt))

    by_tests : (b : Bool) → ltb i j ≡ b → (c : Bool) → ltb j i ≡ c → i ≡ j
    by_tests true b c k = let less : i < j = grind (arith, nat_tests) in let h : get_or xs i 0 < get_or xs j 0 = up i j less lj in absurd (omega arith)
    by_tests false b true k = let less : j < i = grind (arith, nat_tests) in let h : get_or xs j 0 < get_or xs i 0 = up j i less li in absurd (omega arith)
    by_tests false b false k = grind (arith, nat_tests)

-- a TPDO with a number is at one place
pub one_tpdo : (p : ℕ → Bool) (n : ℕ) (tpdos : List Tpdo) → map (λ t. t.number) tpdos ≡ filter p (range_with_len 0 n) → (i j : ℕ) (d e : Tpdo) → i < length tpdos → j < length tpdos → (get_or tpdos i d).number ≡ (get_or tpdos j e).number → i ≡ j
one_tpdo p n tpdos numbers i j d e li lj same =
    let mi : i < length (map (λ (t : Tpdo). t.number) tpdos) = simp length-map li in
    let mj : j < length (map (λ (t : Tpdo). t.number) tpdos) = simp length-map lj in
    one_place p n (map (λ t. t.number) tpdos) numbers i j mi mj (number_at_place tpdos i d li ∙ same ∙ sym (number_at_place tpdos j e lj))

none_passes : {X : Type 0} (p : X → Bool) (xs : List X) → length xs ≤ prefix_len (λ x. not (p x)) xs → (j : ℕ) (d : X) → j < length xs → p (get_or xs j d) ≡ false
none_passes p [] le j d lt = absurd (omega arith)
none_passes p (x ∷ xs) le j d lt = by_test (p x) refl j le lt (λ more k below. none_passes p xs more k d below)
  where
    by_test : (b : Bool) → p x ≡ b → (j : ℕ) → length (x ∷ xs) ≤ cond (not b) (1 + prefix_len (λ y. not (p y)) xs) 0 → j < length (x ∷ xs) → (length xs ≤ prefix_len (λ y. not (p y)) xs → (k : ℕ) → k < length xs → p (get_or xs k d) ≡ false) → p (get_or (x ∷ xs) j d) ≡ false
    by_test true e j le lt more = absurd (omega arith)
    by_test false e zero le lt more = e
    by_test false e (suc j) le lt more = more (omega arith) j (omega arith)

-- where `position` finds none, no element passes
pub position-None : {X : Type 0} (p : X → Bool) (xs : List X) → position p xs ≡ None → (j : ℕ) (d : X) → j < length xs → p (get_or xs j d) ≡ false
position-None {X = X} p xs h = by_test (ltb (position_or_len p xs) (length xs)) refl h
  where
    by_test : (b : Bool) → ltb (position_or_len p xs) (length xs) ≡ b → cond b (Some (position_or_len p xs)) None ≡ None → (j : ℕ) (d : X) → j < length xs → p (get_or xs j d) ≡ false
    by_test true e h j d lt = cc
    by_test false e h j d lt = none_passes p xs (grind (arith, nat_tests)) j d lt

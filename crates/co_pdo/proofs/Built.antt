-- The TPDOs of a dictionary, one number after another.
use Rattle.std.proofs.Common.{◌≡◌, ℕ, ◌+◌, ◌<◌, ◌≤◌, Bool, true, false, cond, ltb, List, [], ◌∷◌, ◌++◌, map, take, length, get_or, Some, sym, ap, ◌∙◌, subst, refl, arith, append-nil, length-append}
use Rattle.std.specs.List.{filter, range_with_len, slice_get}
use Rattle.std.proofs.lemmas.List.{map-append, get_or_append_left, length-map, take_all, take_more}
use Rattle.std.proofs.Math.Seq.{get_or-append_seam}
use Rattle.std.proofs.lemmas.Bool.Decides.{nat_tests}
use Rattle.co_dict.specs.Stores.{Description}
use Rattle.co_pdo.specs.declared.places.Places.{Places}
use Rattle.co_pdo.specs.declared.tpdo.Tpdo.{Tpdo}
use Rattle.co_pdo.specs.Tpdos.{places_of}
use Rattle.co_pdo.specs.Schedules.{ArePlaces}
use Rattle.co_pdo.proofs.Lists.{filter_range_more, number_at_place}

-- the numbers, where one more passes the test and is there, or does not and is not
pub numbers_pushed : (p : ℕ → Bool) (k : ℕ) (xs ys : List Tpdo) (t : Tpdo) → t.number ≡ k → ys ≡ xs ++ t ∷ [] → p k ≡ true → map (λ t. t.number) xs ≡ filter p (range_with_len 0 k) → map (λ t. t.number) ys ≡ filter p (range_with_len 0 (k + 1))
numbers_pushed p k xs ys t n e h numbers =
    ap (map (λ t. t.number)) e ∙ map-append (λ (t : Tpdo). t.number) xs (t ∷ []) ∙ ap (λ ns. ns ++ t.number ∷ []) numbers ∙ ap (λ (m : ℕ). filter p (range_with_len 0 k) ++ m ∷ []) n
    ∙ ap (λ b. filter p (range_with_len 0 k) ++ cond b (k ∷ []) []) (sym h) ∙ sym (filter_range_more p k)

pub numbers_kept : (p : ℕ → Bool) (k : ℕ) (xs ys : List Tpdo) → ys ≡ xs → p k ≡ false → map (λ t. t.number) xs ≡ filter p (range_with_len 0 k) → map (λ t. t.number) ys ≡ filter p (range_with_len 0 (k + 1))
numbers_kept p k xs ys e h numbers =
    ap (map (λ t. t.number)) e ∙ numbers ∙ sym (append-nil (filter p (range_with_len 0 k))) ∙ ap (λ b. filter p (range_with_len 0 k) ++ cond b (k ∷ []) []) (sym h) ∙ sym (filter_range_more p k)

-- what holds of each, and of one more
pub each_pushed : (P : Tpdo → Type 0) (xs ys : List Tpdo) (t : Tpdo) → ys ≡ xs ++ t ∷ [] → P t → ((i : ℕ) (d : Tpdo) → i < length xs → P (get_or xs i d)) → (i : ℕ) (d : Tpdo) → i < length ys → P (get_or ys i d)
each_pushed P xs ys t e h all i d lt = rw e (by_test (ltb i (length xs)) refl)
  where
    by_test : (b : Bool) → ltb i (length xs) ≡ b → P (get_or (xs ++ t ∷ []) i d)
    by_test true low = let below : i < length xs = grind (arith, nat_tests) in rw (get_or_append_left xs (t ∷ []) d i below) (all i d below)
    by_test false low =
        let most : i < length xs + 1 = simp length-append at (subst (λ zs. i < length zs) e lt) in
        let last : i ≡ length xs = grind (arith, nat_tests) in
        rw last (rw (get_or-append_seam xs t [] d) h)

pub numbers_at_the_end : (p : ℕ → Bool) (xs : List Tpdo) (k : ℕ) → k ≡ 512 → map (λ t. t.number) xs ≡ filter p (range_with_len 0 k) → map (λ t. t.number) xs ≡ filter p (range_with_len 0 512)
numbers_at_the_end p xs k e numbers = numbers ∙ ap (λ n. filter p (range_with_len 0 n)) e

-- the places of one TPDO more
pub places_pushed : (d : Description) (tpdos : List Tpdo) (i : ℕ) (t : Tpdo) (own : Places) (before after : List Places) → i < length tpdos → before ≡ map (places_of d) (take i (map (λ t. t.number) tpdos))
    → own ≡ places_of d (get_or tpdos i t).number → after ≡ before ++ own ∷ [] → after ≡ map (places_of d) (take (i + 1) (map (λ t. t.number) tpdos))
places_pushed d tpdos i t own before after lt b o a =
    let numbers = map (λ (t : Tpdo). t.number) tpdos in
    let within : i < length numbers = simp length-map lt in
    a ∙ ap (λ (ps : List Places). ps ++ own ∷ []) b ∙ ap (λ (p : Places). map (places_of d) (take i numbers) ++ p ∷ []) (o ∙ ap (places_of d) (sym (number_at_place tpdos i t lt)))
    ∙ sym (map-append (places_of d) (take i numbers) (get_or numbers i 0 ∷ [])) ∙ ap (map (places_of d)) (sym (take_more numbers i 0 within))

pub places_to_the_end : (d : Description) (tpdos : List Tpdo) (i : ℕ) (places : List Places) → length tpdos ≤ i → places ≡ map (places_of d) (take i (map (λ t. t.number) tpdos)) → places ≡ map (places_of d) (map (λ t. t.number) tpdos)
places_to_the_end d tpdos i places le e =
    let all : length (map (λ (t : Tpdo). t.number) tpdos) ≤ i = simp length-map le in
    e ∙ ap (map (places_of d)) (take_all i (map (λ t. t.number) tpdos) all)

-- the first places are those of the first number
pub first_place : (d : Description) (numbers : List ℕ) (places : List Places) (p : Places) → slice_get places 0 ≡ Some p → ArePlaces d numbers places → 0 < length numbers → p ≡ places_of d (get_or numbers 0 0)
first_place d [] places p first placed some = absurd (omega arith)
first_place d (n ∷ ns) places p first placed some = let is : Some (places_of d n) ≡ Some p = sym (ap (λ (ps : List Places). slice_get ps 0) placed) ∙ first in cc

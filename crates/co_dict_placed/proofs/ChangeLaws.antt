-- What changes are after one is noted or forgotten.
use Rattle.std.proofs.Common.{◌≡◌, ℕ, zero, suc, ◌-◌, ◌*◌, ◌/◌, ◌%◌, ◌^◌, ◌<◌, ◌≤◌, Bool, true, false, not, eqb, List, [], ◌∷◌, length, replicate, get_or, set, bit_and, bit_or, w8, Option, Some, None, refl, sym, ap, ◌∙◌, inl, inr, arith, eq-eqb, ne_eqb, length-set, get_or-set_same, get_or-set_other}
use Rattle.std.specs.Prelude.{◌&&◌, ◌||◌}
use Rattle.std.specs.Int.{bit_at}
use Rattle.std.specs.List.{list_any}
use Rattle.std.specs.Option.{option_map_or}
use Rattle.std.proofs.lemmas.Bool.{cases_eq, cases_lt}
use Rattle.std.proofs.lemmas.Nat.{one_shl}
use Rattle.std.proofs.lemmas.Nat.Bits.{bit_at-zero, bit_at_set_same, bit_at_set_other, bit_at_clear_same, bit_at_clear_other}
use Rattle.std.proofs.lemmas.List.{get_or_past, set_past}
use Rattle.co_value.specs.declared.key.Key.{Key}
use Rattle.co_dict.specs.Stores.{Description}
use Rattle.co_dict.specs.Places.{place_of}
use Rattle.co_dict_placed.specs.Changes.{is_at, is_changed, with_key, with_keys, with_change, without_change}

-- ---- a byte

shifted : (k : ℕ) → k < 8 → (1 * 2 ^ k) % 256 ≡ 2 ^ k
shifted k low = one_shl k 8 low

set_bit : (a k i : ℕ) → k < 8 → eqb (bit_at (bit_or a (2 ^ k)) i) 1 ≡ (eqb i k || eqb (bit_at a i) 1)
set_bit a k i low =
    elim (cases_eq i k) as (λ _. eqb (bit_at (bit_or a (2 ^ k)) i) 1 ≡ (eqb i k || eqb (bit_at a i) 1)) [
      | inl same ↦
          rw same (ap (λ m. eqb (bit_at (bit_or a m) k) 1) (sym (shifted k low)) ∙ eq-eqb _ 1 (bit_at_set_same w8 a k low)
          ∙ sym (ap (λ b. b || eqb (bit_at a k) 1) (eq-eqb k k refl)))
      | inr other ↦
          ap (λ m. eqb (bit_at (bit_or a m) i) 1) (sym (shifted k low)) ∙ ap (λ x. eqb x 1) (bit_at_set_other w8 a k low i other)
          ∙ sym (ap (λ b. b || eqb (bit_at a i) 1) (ne_eqb i k other))
    ]

clear_bit : (a k i : ℕ) → k < 8 → i < 8 → eqb (bit_at (bit_and a (255 - 2 ^ k)) i) 1 ≡ (not (eqb i k) && eqb (bit_at a i) 1)
clear_bit a k i low within =
    elim (cases_eq i k) as (λ _. eqb (bit_at (bit_and a (255 - 2 ^ k)) i) 1 ≡ (not (eqb i k) && eqb (bit_at a i) 1)) [
      | inl same ↦
          rw same (ap (λ m. eqb (bit_at (bit_and a (255 - m)) k) 1) (sym (shifted k low)) ∙ ap (λ x. eqb x 1) (bit_at_clear_same w8 a k low)
          ∙ sym (ap (λ b. not b && eqb (bit_at a k) 1) (eq-eqb k k refl)))
      | inr other ↦
          ap (λ m. eqb (bit_at (bit_and a (255 - m)) i) 1) (sym (shifted k low)) ∙ ap (λ x. eqb x 1) (bit_at_clear_other w8 a k low i within other)
          ∙ sym (ap (λ b. not b && eqb (bit_at a i) 1) (ne_eqb i k other))
    ]

-- ---- bytes

-- two places of a byte are the same exactly where their bits are
same_byte : (a b : ℕ) → a / 8 ≡ b / 8 → eqb (a % 8) (b % 8) ≡ eqb a b
same_byte a b row = elim (cases_eq a b) as (λ _. eqb (a % 8) (b % 8) ≡ eqb a b) [
  | inl same ↦ eq-eqb _ _ (ap (λ x. x % 8) same) ∙ sym (eq-eqb a b same)
  | inr other ↦ ne_eqb _ _ (λ index. other (omega arith)) ∙ sym (ne_eqb a b other)
]

apart : (a b : ℕ) → (a / 8 ≡ b / 8 → ⊥) → eqb a b ≡ false
apart a b rows = ne_eqb a b (λ same. rows (ap (λ x. x / 8) same))

abbrev test : ℕ → ℕ → Bool
test n byte = eqb (bit_at byte (n % 8)) 1

other_byte : (changes : List ℕ) (place v n : ℕ) → (n / 8 ≡ place / 8 → ⊥) → is_changed (set changes (place / 8) v) n ≡ is_changed changes n
other_byte changes place v n rows = ap (test n) (get_or-set_other changes (place / 8) (n / 8) v 0 rows)

here : (changes : List ℕ) (place v n : ℕ) → n / 8 ≡ place / 8 → place / 8 < length changes → is_changed (set changes (place / 8) v) n ≡ test n v
here changes place v n row within =
    ap (λ i. test n (get_or (set changes (place / 8) v) i 0)) row ∙ ap (test n) (get_or-set_same changes (place / 8) v 0 within)

pub noted : (changes : List ℕ) (place n : ℕ) → place / 8 < length changes → is_changed (with_change changes place) n ≡ (eqb n place || is_changed changes n)
noted changes place n within =
    let v : ℕ = bit_or (get_or changes (place / 8) 0) (2 ^ (place % 8)) in
    elim (cases_eq (n / 8) (place / 8)) as (λ _. is_changed (with_change changes place) n ≡ (eqb n place || is_changed changes n)) [
      | inl row ↦
          here changes place v n row within
          ∙ set_bit (get_or changes (place / 8) 0) (place % 8) (n % 8) (omega arith)
          ∙ ap (λ b. b || test n (get_or changes (place / 8) 0)) (same_byte n place row)
          ∙ ap (λ i. eqb n place || test n (get_or changes i 0)) (sym row)
      | inr rows ↦ other_byte changes place v n rows ∙ sym (ap (λ b. b || is_changed changes n) (apart n place rows))
    ]

past_last : (changes : List ℕ) (n : ℕ) → length changes ≤ n / 8 → is_changed changes n ≡ false
past_last changes n past = ap (test n) (get_or_past changes (n / 8) 0 past) ∙ ap (λ x. eqb x 1) (bit_at-zero (n % 8))

taken_here : (changes : List ℕ) (place n : ℕ) → n / 8 ≡ place / 8 → is_changed (without_change changes place) n ≡ (not (eqb n place) && is_changed changes n)
taken_here changes place n row =
    let v : ℕ = bit_and (get_or changes (place / 8) 0) (255 - 2 ^ (place % 8)) in
    elim (cases_lt (place / 8) (length changes)) as (λ _. is_changed (without_change changes place) n ≡ (not (eqb n place) && is_changed changes n)) [
      | inl within ↦
          here changes place v n row within
          ∙ clear_bit (get_or changes (place / 8) 0) (place % 8) (n % 8) (omega arith) (omega arith)
          ∙ ap (λ b. not b && test n (get_or changes (place / 8) 0)) (same_byte n place row)
          ∙ ap (λ i. not (eqb n place) && test n (get_or changes i 0)) (sym row)
      | inr past ↦
          let unset : is_changed changes n ≡ false = past_last changes n (omega arith) in
          ap (λ ms. is_changed ms n) (set_past changes (place / 8) v past) ∙ unset
          ∙ sym (ap (λ b. not (eqb n place) && b) unset ∙ and_false (not (eqb n place)))
    ]
  where
    and_false : (b : Bool) → (b && false) ≡ false
    and_false true = refl
    and_false false = refl

pub forgotten : (changes : List ℕ) (place n : ℕ) → is_changed (without_change changes place) n ≡ (not (eqb n place) && is_changed changes n)
forgotten changes place n =
    let v : ℕ = bit_and (get_or changes (place / 8) 0) (255 - 2 ^ (place % 8)) in
    elim (cases_eq (n / 8) (place / 8)) as (λ _. is_changed (without_change changes place) n ≡ (not (eqb n place) && is_changed changes n)) [
      | inl row ↦ taken_here changes place n row
      | inr rows ↦ other_byte changes place v n rows ∙ sym (ap (λ b. not b && is_changed changes n) (apart n place rows))
    ]

-- ---- by keys

by_key : (place : Option ℕ) (changes : List ℕ) (n : ℕ) → n / 8 < length changes
    → is_changed (option_map_or (λ p. with_change changes p) place changes) n ≡ (option_map_or (λ p. eqb n p) place false || is_changed changes n)
by_key None changes n within = refl
by_key (Some place) changes n within = elim (cases_lt (place / 8) (length changes))
    as (λ _. is_changed (with_change changes place) n ≡ (eqb n place || is_changed changes n)) [
      | inl there ↦ noted changes place n there
      | inr past ↦
          let other : n / 8 ≡ place / 8 → ⊥ = λ row. omega arith in
          ap (λ ms. is_changed ms n) (set_past changes (place / 8) _ past) ∙ sym (ap (λ b. b || is_changed changes n) (apart n place other))
    ]

many : (place : Option ℕ) (changes : List ℕ) → length (option_map_or (λ p. with_change changes p) place changes) ≡ length changes
many None changes = refl
many (Some place) changes = length-set changes (place / 8) _

first_or_later : (first later before : Bool) → (later || (first || before)) ≡ ((first || later) || before)
first_or_later true true before = refl
first_or_later true false before = refl
first_or_later false true before = refl
first_or_later false false before = refl

pub by_keys : (d : Description) (keys : List Key) (changes : List ℕ) (n : ℕ) → n / 8 < length changes
    → is_changed (with_keys d keys changes) n ≡ (list_any (is_at d n) keys || is_changed changes n)
by_keys d [] changes n within = refl
by_keys d (key ∷ keys) changes n within =
    by_keys d keys (with_key d key changes) n (omega (arith, many (place_of d key) changes))
    ∙ ap (λ b. list_any (is_at d n) keys || b) (by_key (place_of d key) changes n within)
    ∙ first_or_later (is_at d n key) (list_any (is_at d n) keys) (is_changed changes n)

-- ---- at first

zeros : (count i : ℕ) → get_or {A = ℕ} (replicate count 0) i 0 ≡ zero
zeros zero i = refl
zeros (suc count) zero = refl
zeros (suc count) (suc i) = zeros count i

pub none : (count n : ℕ) → is_changed (replicate count 0) n ≡ false
none count n = ap (test n) (zeros count (n / 8)) ∙ ap (λ x. eqb x 1) (bit_at-zero (n % 8))

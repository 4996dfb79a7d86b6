-- Numbers in decimal digits.
use Rattle.std.proofs.Common.{◌≡◌, ℕ, zero, suc, ◌+◌, ◌-◌, ◌*◌, ◌<◌, ◌≤◌, Bool, true, false, ◌&&◌, List, [], ◌∷◌, length, take, get_or, Some, None, leb, ltb, refl, arith, ap, ◌∙◌}
use Rattle.std.specs.Prelude.{fold}
use Rattle.std.specs.List.{list_all}
use Rattle.std.proofs.lemmas.List.Sums.{fold_more}
use Rattle.std.proofs.lemmas.Bool.Decides.{nat_tests}
use Rattle.std.proofs.lemmas.List.{take_all}
use Rattle.co_text.specs.Texts.{is_digit, decimal_value, decimal_in}

-- one digit more
pub decimal_value-more : (text : List ℕ) (i : ℕ) → i < length text → decimal_value (take (i + 1) text) ≡ 10 * decimal_value (take i text) + (get_or text i 0 - 48)
decimal_value-more text i h = fold_more (λ number digit. 10 * number + (digit - 48)) 0 text i 0 h

-- digits more make a number no smaller
value_grows : (start : ℕ) (text : List ℕ) → start ≤ fold (λ number digit. 10 * number + (digit - 48)) start text
value_grows start [] = omega arith
value_grows start (x ∷ xs) = omega (arith, value_grows (10 * start + (x - 48)) xs)

value_of_front : (start i : ℕ) (text : List ℕ) → fold (λ number digit. 10 * number + (digit - 48)) start (take i text) ≤ fold (λ number digit. 10 * number + (digit - 48)) start text
value_of_front start zero text = value_grows start text
value_of_front start (suc i) [] = omega arith
value_of_front start (suc i) (x ∷ xs) = value_of_front (10 * start + (x - 48)) i xs

pub decimal_value-front : (text : List ℕ) (i : ℕ) → decimal_value (take i text) ≤ decimal_value text
decimal_value-front text i = value_of_front 0 i text

-- ---- a word that is a number

all_from_places : (p : ℕ → Bool) (text : List ℕ) → ((k : ℕ) → k < length text → p (get_or text k 0) ≡ true) → list_all p text ≡ true
all_from_places p [] h = refl
all_from_places p (x ∷ xs) h = rw (h 0 (omega arith)) (all_from_places p xs (λ k below. h (suc k) (omega arith)))

and_false : (b : Bool) → (b && false) ≡ false
and_false true = refl
and_false false = refl

pub decimal_too_large : (least most : ℕ) (word : List ℕ) → most < decimal_value word → None ≡ decimal_in least most word
decimal_too_large least most word h =
    let large : leb (decimal_value word) most ≡ false = grind (arith, nat_tests) in
    rw (large, and_false) refl

pub decimal_found : (least most : ℕ) (word : List ℕ) → 0 < length word → ((k : ℕ) → k < length word → is_digit (get_or word k 0) ≡ true) → least ≤ decimal_value word → decimal_value word ≤ most → Some (decimal_value word) ≡ decimal_in least most word
decimal_found least most word some digits enough few =
    let a : ltb 0 (length word) ≡ true = grind (arith, nat_tests) in
    let b : leb least (decimal_value word) ≡ true = grind (arith, nat_tests) in
    let c : leb (decimal_value word) most ≡ true = grind (arith, nat_tests) in
    rw (a, all_from_places is_digit word digits, b, c) refl

pub decimal_found_at : (least most : ℕ) (word : List ℕ) (n number : ℕ) → length word ≤ n → number ≡ decimal_value (take n word) → 0 < length word → ((k : ℕ) → k < n → is_digit (get_or word k 0) ≡ true) → least ≤ number → number ≤ most → Some number ≡ decimal_in least most word
decimal_found_at least most word n number whole is some digits enough few =
    let all : take n word ≡ word = take_all n word whole in
    let value : number ≡ decimal_value word = is ∙ ap decimal_value all in
    rw value (decimal_found least most word some (λ k below. digits k (omega arith)) (omega (arith, value)) (omega (arith, value)))

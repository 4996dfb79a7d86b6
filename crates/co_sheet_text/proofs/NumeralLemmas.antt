-- A number read digit by digit.
use Rattle.std.proofs.Common.{◌≡◌, ℕ, suc, ◌+◌, ◌*◌, ◌^◌, ◌<◌, ◌≤◌, Bool, true, false, cond, not, ◌&&◌, List, [], ◌∷◌, length, drop, get_or, Option, Some, None, refl, sym, ap, ◌∙◌, arith, ltb, drop-cons, add-one, eqb, leb, lit<, lit≤}
use Rattle.std.proofs.lemmas.Bool.{and_parts}
use Rattle.std.proofs.lemmas.Bool.Decides.{nat_tests}
use Rattle.std.proofs.Math.Dec.{eqb-suc-zero}
use Rattle.std.proofs.lemmas.List.{drop_all}
use Rattle.std.proofs.Math.Nat.{mul-le-mul_left, mul-le-mul_right, pow-suc, pow-le-pow_right}
use Rattle.std.specs.Prelude.{fold}
use Rattle.std.specs.List.{list_all}
use Rattle.std.specs.Char.{digit_value, is_digit}
use Rattle.co_sheet_text.specs.Names.{number_in, is_hexadecimal_up_to}
use Rattle.co_sheet_text.specs.Numerals.{is_number_in, is_below_8, is_ambiguous, decimal_number}
use Rattle.co_sheet_text.specs.declared.numeral.NumeralFault.{NumeralFault}
use Rattle.co_sheet_text.specs.declared.numeral.NumeralFault.TheVariants.{Malformed, Ambiguous}
use Rattle.std.specs.Prelude.{Result, Ok, Err, if◌then◌else◌}

-- one more digit
abbrev pub with_digit : ℕ → ℕ → ℕ → ℕ
with_digit base n digit = base * n + digit_value digit

-- what digits after a number give, below 2 ^ 64
abbrev pub read_after : ℕ → ℕ → List ℕ → Option ℕ
read_after base n text = cond (list_all (λ c. is_digit c base) text && ltb (fold (with_digit base) n text) (2 ^ 64)) (Some (fold (with_digit base) n text)) None

pub read_after-digit : (base n x : ℕ) (text : List ℕ) → digit_value x < base → read_after base n (x ∷ text) ≡ read_after base (base * n + digit_value x) text
read_after-digit base n x text h =
    let test : is_digit x base ≡ true = grind (arith, nat_tests) in
    rw test refl

pub fold-grows : (base n : ℕ) (text : List ℕ) → 1 ≤ base → n ≤ fold (with_digit base) n text
fold-grows base n [] h = omega arith
fold-grows base n (x ∷ text) h =
    let rest = fold-grows base (with_digit base n x) text h in
    let more = mul-le-mul_left n h in
    omega (arith, rest, more)

too_great : (b : Bool) (m : ℕ) → 2 ^ 64 ≤ m → cond (b && ltb m (2 ^ 64)) (Some m) None ≡ None
too_great true m h = let test : ltb m (2 ^ 64) ≡ false = grind (arith, nat_tests) in rw test refl
too_great false m h = refl

pub read_after-great : (base n : ℕ) (text : List ℕ) → 1 ≤ base → 2 ^ 64 ≤ n → read_after base n text ≡ None
read_after-great base n text h great =
    let grows = fold-grows base n text h in
    too_great (list_all (λ c. is_digit c base) text) (fold (with_digit base) n text) (omega (arith, grows))

pub read_after-end : (base n : ℕ) → n < 2 ^ 64 → read_after base n [] ≡ Some n
read_after-end base n h = let test : ltb n (2 ^ 64) ≡ true = grind (arith, nat_tests) in rw test refl

pub read_after-start : (base : ℕ) (text : List ℕ) → 0 < length text → cond (is_number_in base text) (Some (number_in base text)) None ≡ read_after base 0 text
read_after-start base [] h = absurd (omega arith)
read_after-start base (x ∷ text) h = rw (eqb-suc-zero (length text)) refl

-- a digit that makes the number too great
pub great_at : (base n i digit : ℕ) (text : List ℕ) → i < length text → 2 ≤ base → digit_value (get_or text i 0) ≡ digit → digit < base → 2 ^ 64 ≤ base * n + digit → read_after base n (drop i text) ≡ read_after base 0 text → None ≡ cond (is_number_in base text) (Some (number_in base text)) None
great_at base n i digit text inside low is small great invariant =
    let cut = drop-cons text i 0 inside in
    let some : 0 < length text = omega arith in
    let is_small : digit_value (get_or text i 0) < base = omega arith in
    let is_great : 2 ^ 64 ≤ base * n + digit_value (get_or text i 0) = omega arith in
    let here : read_after base n (get_or text i 0 ∷ drop (suc i) text) ≡ None =
    read_after-digit base n (get_or text i 0) (drop (suc i) text) is_small ∙ read_after-great base (base * n + digit_value (get_or text i 0)) (drop (suc i) text) (omega arith) is_great in
    sym (read_after-start base text some ∙ sym invariant ∙ ap (read_after base n) cut ∙ here)

-- no more digits
pub read_all : (base n i : ℕ) (text : List ℕ) → 0 < length text → length text ≤ i → n < 2 ^ 64 → read_after base n (drop i text) ≡ read_after base 0 text → Some n ≡ cond (is_number_in base text) (Some (number_in base text)) None
read_all base n i text some past small invariant =
    sym (read_after-start base text some ∙ sym invariant ∙ ap (read_after base n) (drop_all i text past) ∙ read_after-end base n small)

-- a digit more
pub next_at : (base n i digit next : ℕ) (text : List ℕ) → i < length text → digit_value (get_or text i 0) ≡ digit → digit < base → next ≡ base * n + digit → read_after base n (drop i text) ≡ read_after base 0 text → read_after base next (drop (i + 1) text) ≡ read_after base 0 text
next_at base n i digit next text inside is small sum invariant =
    let is_small : digit_value (get_or text i 0) < base = omega arith in
    let is_next : base * n + digit_value (get_or text i 0) ≡ next = omega arith in
    let here : read_after base n (get_or text i 0 ∷ drop (suc i) text) ≡ read_after base next (drop (suc i) text) =
    read_after-digit base n (get_or text i 0) (drop (suc i) text) is_small ∙ ap (λ m. read_after base m (drop (suc i) text)) is_next in
    rw (add-one i) (sym here ∙ sym (ap (read_after base n) (drop-cons text i 0 inside)) ∙ invariant)

-- digits of base 16 write less than a power of it
pub fold-bound : (n : ℕ) (text : List ℕ) → list_all (λ c. is_digit c 16) text ≡ true → fold (with_digit 16) n text < (n + 1) * 16 ^ length text
fold-bound n [] h = omega arith
fold-bound n (x ∷ text) h =
    let each = and_parts (is_digit x 16) (list_all (λ c. is_digit c 16) text) h in
    let digit : digit_value x < 16 = grind (arith, nat_tests, each.0) in
    let rest = fold-bound (16 * n + digit_value x) text each.1 in
    let more : (16 * n + digit_value x + 1) * 16 ^ length text ≤ (16 * n + 16) * 16 ^ length text = mul-le-mul_right (16 ^ length text) (omega arith) in
    rw (pow-suc 16 (length text)) (omega (arith, rest, more))

same_tests : (some all small short : Bool) → short ≡ true → (all ≡ true → small ≡ true) → ((some && all) && small) ≡ ((some && short) && all)
same_tests true true small short w s = cc (s refl)
same_tests true false small true w s = refl
same_tests true false small false w s = refl
same_tests false all small short w s = refl

pub hexadecimal_small : (most : ℕ) (text : List ℕ) → length text ≤ most → is_hexadecimal_up_to most text ≡ true → number_in 16 text < 16 ^ most
hexadecimal_small most text fits h =
    let bound = fold-bound 0 text (and_parts _ (list_all (λ c. is_digit c 16) text) h).1 in
    let grows : 16 ^ length text ≤ 16 ^ most = pow-le-pow_right (lit< tt) fits in
    omega (arith, bound, grows)

-- at most four hexadecimal digits always write a number below 2 ^ 64
pub is_number_in-hexadecimal : (most : ℕ) (text : List ℕ) → length text ≤ most → most ≤ 4 → is_number_in 16 text ≡ is_hexadecimal_up_to most text
is_number_in-hexadecimal most text fits few =
    let small : list_all (λ c. is_digit c 16) text ≡ true → ltb (number_in 16 text) (2 ^ 64) ≡ true = λ h.
    let bound = fold-bound 0 text h in
    let short : length text ≤ 4 = omega arith in
    let grows : 16 ^ length text ≤ 16 ^ 4 = pow-le-pow_right (lit< tt) short in
    grind (arith, nat_tests, bound, grows) in
    same_tests (not (eqb (length text) 0)) (list_all (λ c. is_digit c 16) text) (ltb (number_in 16 text) (2 ^ 64)) (leb (length text) most) (grind (arith, nat_tests)) small

-- what is found where a test says so
pub found : {n m : ℕ} (b : Bool) → Some n ≡ cond b (Some m) None → (b ≡ true) × (n ≡ m)
found true h = (refl, cc)
found false h = absurd (cc)

-- ---- digits that begin with 0

one_digit : (d : ℕ) → is_digit d 10 ≡ true → ltb 7 (10 * 0 + digit_value d) ≡ not (leb d 55)
one_digit d h = grind (arith, nat_tests)

other_digit : (d : ℕ) → is_digit d 10 ≡ true → eqb d 48 ≡ false → 1 ≤ digit_value d
other_digit d h k = grind (arith, nat_tests)

more_digits : (zero_first : Bool) (d next : ℕ) (digits : List ℕ) → eqb d 48 ≡ zero_first → is_digit d 10 ≡ true
    → ltb 7 (number_in 10 (next ∷ digits)) ≡ not (is_below_8 (next ∷ digits))
    → ltb 7 (number_in 10 (d ∷ next ∷ digits)) ≡ not (zero_first && is_below_8 (next ∷ digits))
more_digits true d next digits is h rest =
    let zero : digit_value d ≡ 0 = grind (arith, nat_tests) in
    rw zero rest
more_digits false d next digits is h rest =
    let some = other_digit d h is in
    let grows = fold-grows 10 (10 * (10 * 0 + digit_value d) + digit_value next) digits (lit≤ tt) in
    grind (arith, nat_tests, some, grows)

below-8 : (digits : List ℕ) → list_all (λ c. is_digit c 10) digits ≡ true → ltb 7 (number_in 10 digits) ≡ not (is_below_8 digits)
below-8 [] h = refl
below-8 (d ∷ []) h = one_digit d (and_parts (is_digit d 10) true h).0
below-8 (d ∷ next ∷ digits) h =
    let both = and_parts (is_digit d 10) (list_all (λ c. is_digit c 10) (next ∷ digits)) h in
    more_digits (eqb d 48) d next digits refl both.0 (below-8 (next ∷ digits) both.1)

number-digits : (text : List ℕ) → is_number_in 10 text ≡ true → list_all (λ c. is_digit c 10) text ≡ true
number-digits text h = (and_parts _ _ (and_parts _ _ h).0).1

first-zero : (zero_first : Bool) (d : ℕ) (digits : List ℕ) → eqb d 48 ≡ zero_first → list_all (λ c. is_digit c 10) (d ∷ digits) ≡ true
    → (zero_first && ltb 7 (number_in 10 (d ∷ digits))) ≡ (zero_first && not (is_below_8 digits))
first-zero true d digits is h =
    let zero : digit_value d ≡ 0 = grind (arith, nat_tests) in
    rw zero (below-8 digits (and_parts (is_digit d 10) (list_all (λ c. is_digit c 10) digits) h).1)
first-zero false d digits is h = refl

-- a number that begins with 0 is ambiguous where it is above 7
pub ambiguous-above_7 : (d : ℕ) (digits : List ℕ) → is_number_in 10 (d ∷ digits) ≡ true
    → (eqb d 48 && ltb 7 (number_in 10 (d ∷ digits))) ≡ is_ambiguous (d ∷ digits)
ambiguous-above_7 d digits h = first-zero (eqb d 48) d digits refl (number-digits (d ∷ digits) h)

-- the number of decimal digits, by its value
abbrev pub decimal_by_value : List ℕ → Result ℕ NumeralFault
decimal_by_value [] = Err Malformed
decimal_by_value (d ∷ digits) =
    if not (is_number_in 10 (d ∷ digits)) then Err Malformed
    else if eqb d 48 && ltb 7 (number_in 10 (d ∷ digits)) then Err Ambiguous
    else Ok (number_in 10 (d ∷ digits))

abbrev pub decimal_if : Bool → Bool → ℕ → Result ℕ NumeralFault
decimal_if read ambiguous number = if not read then Err Malformed else if ambiguous then Err Ambiguous else Ok number

decimal-cases : (read : Bool) (d : ℕ) (digits : List ℕ) → is_number_in 10 (d ∷ digits) ≡ read
    → decimal_if read (eqb d 48 && ltb 7 (number_in 10 (d ∷ digits))) (number_in 10 (d ∷ digits)) ≡ decimal_if read (is_ambiguous (d ∷ digits)) (number_in 10 (d ∷ digits))
decimal-cases true d digits is = ap (λ (b : Bool). decimal_if true b (number_in 10 (d ∷ digits))) (ambiguous-above_7 d digits is)
decimal-cases false d digits is = refl

decimal-same : (text : List ℕ) → decimal_by_value text ≡ decimal_number text
decimal-same [] = refl
decimal-same (d ∷ digits) = decimal-cases (is_number_in 10 (d ∷ digits)) d digits refl

pub by_value : (text : List ℕ) (r : Result ℕ NumeralFault) → r ≡ decimal_by_value text → r ≡ decimal_number text
by_value text r h = h ∙ decimal-same text

-- A number of up to five digits in five columns.
use Rattle.std.proofs.Common.{◌≡◌, ℕ, ◌+◌, ◌-◌, ◌/◌, ◌%◌, ◌^◌, ◌<◌, ◌≤◌, true, false, List, [], ◌∷◌, ◌++◌, length, ltb, replicate, refl, ap, ◌∙◌, append_assoc, length-append, arith}
use Rattle.std.specs.Prelude.{decimal}
use Rattle.std.proofs.lemmas.Bool.Decides.{nat_tests}
use Rattle.std.proofs.lemmas.Fmt.{decimal_digit, decimal_step}
use Rattle.co_text.specs.Printed.{printed_digit}
use Rattle.co_text.proofs.Tests.{by_test}
use Rattle.conode_explain_text.specs.Stamps.{column, padded}

-- the last digit of a number that has others, and the others
more : (width n : ℕ) → 10 ≤ n → n < 2 ^ 64 → padded (width + 1) n ≡ padded width (n / 10) ++ (48 + n % 10) ∷ []
more width n ten small =
    let cut = decimal_step n ten small in
    let longer : length (decimal n) ≡ length (decimal (n / 10)) + 1 = ap length cut ∙ length-append (decimal (n / 10)) ((48 + n % 10) ∷ []) in
    let blanks : width + 1 - length (decimal n) ≡ width - length (decimal (n / 10)) = omega (arith, longer) in
    ap (λ (count : ℕ). replicate count 32 ++ decimal n) blanks
    ∙ ap (λ (digits : List ℕ). replicate (width - length (decimal (n / 10))) 32 ++ digits) cut
    ∙ simp append_assoc

-- a digit alone
one : (width n : ℕ) → n < 10 → padded (width + 1) n ≡ replicate width 32 ++ (48 + n) ∷ []
one width n small =
    let digit = decimal_digit n small in
    let blanks : width + 1 - 1 ≡ width = omega arith in
    rw (digit, blanks) refl

printed : (n : ℕ) → n < 10 → printed_digit n ≡ 48 + n
printed n small = let is : ltb n 10 ≡ true = grind (arith, nat_tests) in rw is refl

blank : (unit n : ℕ) → n < unit → column unit n ≡ 32
blank unit n small = let is : ltb n unit ≡ true = grind (arith, nat_tests) in rw is refl

digit : (unit n d : ℕ) → unit ≤ n → n / unit % 10 ≡ d → d < 10 → column unit n ≡ 48 + d
digit unit n d large is small = let no : ltb n unit ≡ false = grind (arith, nat_tests) in rw (no, is) (printed d small)

abbrev columns : ℕ → List ℕ
columns n = column 10000 n ∷ column 1000 n ∷ column 100 n ∷ column 10 n ∷ printed_digit (n % 10) ∷ []

below_10 : (n : ℕ) → n < 10 → columns n ≡ padded 5 n
below_10 n h =
    let whole : n % 10 ≡ n = omega arith in
    let p = one 4 n h in
    rw (blank 10000 n (omega arith), blank 1000 n (omega arith), blank 100 n (omega arith), blank 10 n h, whole, printed n h, p) refl

below_100 : (n : ℕ) → 10 ≤ n → n < 100 → columns n ≡ padded 5 n
below_100 n ten h =
    let p1 = more 4 n ten (omega arith) in
    let p2 = one 3 (n / 10) (omega arith) in
    rw (
      blank 10000 n (omega arith),
      blank 1000 n (omega arith),
      blank 100 n h,
      digit 10 n (n / 10) ten (omega arith) (omega arith),
      printed (n % 10) (omega arith),
      p1,
      p2,
    ) refl

below_1000 : (n : ℕ) → 100 ≤ n → n < 1000 → columns n ≡ padded 5 n
below_1000 n hundred h =
    let p1 = more 4 n (omega arith) (omega arith) in
    let p2 = more 3 (n / 10) (omega arith) (omega arith) in
    let p3 = one 2 (n / 10 / 10) (omega arith) in
    rw (
      blank 10000 n (omega arith),
      blank 1000 n h,
      digit 100 n (n / 10 / 10) hundred (omega arith) (omega arith),
      digit 10 n (n / 10 % 10) (omega arith) refl (omega arith),
      printed (n % 10) (omega arith),
      p1,
      p2,
      p3,
    ) refl

below_10000 : (n : ℕ) → 1000 ≤ n → n < 10000 → columns n ≡ padded 5 n
below_10000 n thousand h =
    let p1 = more 4 n (omega arith) (omega arith) in
    let p2 = more 3 (n / 10) (omega arith) (omega arith) in
    let p3 = more 2 (n / 10 / 10) (omega arith) (omega arith) in
    let p4 = one 1 (n / 10 / 10 / 10) (omega arith) in
    rw (
      blank 10000 n h,
      digit 1000 n (n / 10 / 10 / 10) thousand (omega arith) (omega arith),
      digit 100 n (n / 10 / 10 % 10) (omega arith) (omega arith) (omega arith),
      digit 10 n (n / 10 % 10) (omega arith) refl (omega arith),
      printed (n % 10) (omega arith),
      p1,
      p2,
      p3,
      p4,
    ) refl

below_100000 : (n : ℕ) → 10000 ≤ n → n < 100000 → columns n ≡ padded 5 n
below_100000 n many h =
    let p1 = more 4 n (omega arith) (omega arith) in
    let p2 = more 3 (n / 10) (omega arith) (omega arith) in
    let p3 = more 2 (n / 10 / 10) (omega arith) (omega arith) in
    let p4 = more 1 (n / 10 / 10 / 10) (omega arith) (omega arith) in
    let p5 = one 0 (n / 10 / 10 / 10 / 10) (omega arith) in
    rw (
      digit 10000 n (n / 10 / 10 / 10 / 10) many (omega arith) (omega arith),
      digit 1000 n (n / 10 / 10 / 10 % 10) (omega arith) (omega arith) (omega arith),
      digit 100 n (n / 10 / 10 % 10) (omega arith) (omega arith) (omega arith),
      digit 10 n (n / 10 % 10) (omega arith) refl (omega arith),
      printed (n % 10) (omega arith),
      p1,
      p2,
      p3,
      p4,
      p5,
    ) refl

pub five : (n : ℕ) → n < 100000 → columns n ≡ padded 5 n
five n h =
    by_test (ltb n 10) (λ a. below_10 n (grind (arith, nat_tests, a)))
    (λ a. by_test (ltb n 100) (λ b. below_100 n (grind (arith, nat_tests, a)) (grind (arith, nat_tests, b)))
    (λ b. by_test (ltb n 1000) (λ c. below_1000 n (grind (arith, nat_tests, b)) (grind (arith, nat_tests, c)))
    (λ c. by_test (ltb n 10000) (λ d. below_10000 n (grind (arith, nat_tests, c)) (grind (arith, nat_tests, d)))
    (λ d. below_100000 n (grind (arith, nat_tests, d)) h))))

-- What is printed in hexadecimal digits is read back.
use Rattle.std.proofs.Common.{◌≡◌, ℕ, ◌+◌, ◌-◌, ◌*◌, ◌/◌, ◌%◌, ◌<◌, true, false, ◌&&◌, Some, leb, ltb, refl, arith}
use Rattle.std.proofs.lemmas.Bool.Decides.{nat_tests}
use Rattle.co_text.specs.Texts.{is_digit, hex_digit, hex_pair}
use Rattle.co_text.specs.Printed.{printed_digit}
use Rattle.co_text.proofs.Tests.{by_test}

digit_read : (d : ℕ) → d < 16 → hex_digit (printed_digit d) ≡ Some d
digit_read d small = by_test (ltb d 10)
    (λ digit.
    let is : is_digit (48 + d) ≡ true = grind (arith, nat_tests, digit) in
    let value : 48 + d - 48 ≡ d = omega arith in
    rw (digit, is, value) refl)
    (λ letter.
    let no : is_digit (55 + d) ≡ false = grind (arith, nat_tests, letter) in
    let is : (leb 65 (55 + d) && leb (55 + d) 70) ≡ true = grind (arith, nat_tests, letter, small) in
    let value : 55 + d - 55 ≡ d = omega arith in
    rw (letter, no, is, value) refl)

-- the last two digits of a number
pub pair_read : (n : ℕ) → hex_pair (printed_digit (n / 16 % 16)) (printed_digit (n % 16)) ≡ Some (n % 256)
pair_read n =
    let value : 16 * (n / 16 % 16) + n % 16 ≡ n % 256 = omega arith in
    rw (digit_read (n / 16 % 16) (omega arith), digit_read (n % 16) (omega arith), value) refl

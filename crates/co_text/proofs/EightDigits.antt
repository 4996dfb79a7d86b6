-- Eight hexadecimal digits as twice four.
use Rattle.std.proofs.Common.{◌≡◌, ℕ, ◌/◌, ◌%◌, ◌++◌, arith}
use Rattle.co_text.specs.Printed.{digits_text}

-- the digits of the upper half and of the lower
pub eight_digits : (n : ℕ) → digits_text 16 4 (n / 65536) ++ digits_text 16 4 (n % 65536) ≡ digits_text 16 8 n
unfolding digits_text
eight_digits n =
    let front : n / 16 / 16 / 16 / 16 ≡ n / 65536 = omega arith in
    let last : n % 65536 % 16 ≡ n % 16 = omega arith in
    let third : n % 65536 / 16 % 16 ≡ n / 16 % 16 = omega arith in
    let second : n % 65536 / 16 / 16 % 16 ≡ n / 16 / 16 % 16 = omega arith in
    let first : n % 65536 / 16 / 16 / 16 % 16 ≡ n / 16 / 16 / 16 % 16 = omega arith in
    cc

-- Ten digits as twice five.
use Rattle.std.proofs.Common.{◌≡◌, ℕ, ◌/◌, ◌%◌, ◌<◌, ◌≤◌, ◌^◌, ◌++◌, arith}
use Rattle.std.specs.Prelude.{decimal}
use Rattle.std.proofs.lemmas.Bool.Decides.{nat_tests}
use Rattle.co_text.specs.Printed.{digits_text}
use Rattle.conode_trace.specs.Printed.{seconds_text}

-- the digits of the front and of the rest
pub ten_digits : (s : ℕ) → digits_text 10 5 (s / 100000) ++ digits_text 10 5 (s % 100000) ≡ digits_text 10 10 s
unfolding digits_text
ten_digits s =
    let front : s / 10 / 10 / 10 / 10 / 10 ≡ s / 100000 = omega arith in
    let ones : s % 100000 % 10 ≡ s % 10 = omega arith in
    let tens : s % 100000 / 10 % 10 ≡ s / 10 % 10 = omega arith in
    let hundreds : s % 100000 / 10 / 10 % 10 ≡ s / 10 / 10 % 10 = omega arith in
    let thousands : s % 100000 / 10 / 10 / 10 % 10 ≡ s / 10 / 10 / 10 % 10 = omega arith in
    let most : s % 100000 / 10 / 10 / 10 / 10 % 10 ≡ s / 10 / 10 / 10 / 10 % 10 = omega arith in
    cc

-- the digits of few seconds
pub seconds_text-ten : (s : ℕ) → s < 10 ^ 10 → seconds_text s ≡ digits_text 10 5 (s / 100000) ++ digits_text 10 5 (s % 100000)
unfolding seconds_text
seconds_text-ten s few = rw ten_digits (grind (arith, nat_tests))

-- those of many seconds
pub seconds_text-long : (s : ℕ) → 10 ^ 10 ≤ s → seconds_text s ≡ decimal s
unfolding seconds_text
seconds_text-long s long = grind (arith, nat_tests)

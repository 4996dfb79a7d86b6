-- Numbers in digits.
use Rattle.std.proofs.Common.{◌≡◌, ℕ, zero, suc, ◌+◌, ◌-◌, ◌*◌, ◌^◌, ◌<◌, ◌≤◌, true, false, List, [], length, take, drop, get_or, below_more, Some, None, inl, inr, arith, ap, sym, ◌∙◌}
use Rattle.std.specs.List.{prefix_len}
use Rattle.std.proofs.lemmas.List.Sums.{prefix_len_is, prefix_len_stops}
use Rattle.std.proofs.lemmas.Grind.{common_steps}
use Rattle.std.proofs.lemmas.Bool.{false≢true, cases_lt}
use Rattle.std.proofs.lemmas.Bool.Decides.{nat_tests}
use Rattle.std.proofs.Math.Nat.{pow-suc, add-suc}
use Rattle.std.proofs.Math.ListN.{drop_of_length-le}
use Rattle.co_text.specs.Texts.{is_digit, decimal_value}
use Rattle.conode_trace.specs.FrameLines.{number_at}

-- a digit more is a power more
-- a power of a greater exponent is not less
pub pow_ten_le : (i j : ℕ) → 10 ^ i ≤ 10 ^ (i + j)
pow_ten_le i zero = grind arith
pow_ten_le i (suc j) = let e : 10 ^ (i + suc j) ≡ 10 ^ (i + j) * 10 = rw add-suc (pow-suc 10 (i + j)) in omega (arith, pow_ten_le i j, e)

-- twelve digits are below this
pub below_twelve : (number i : ℕ) → number < 10 ^ i → i ≤ 12 → number < 10 ^ 12
below_twelve number i h few = let e : i + (12 - i) ≡ 12 = omega arith in omega (arith, ap (λ k. 10 ^ k) e, pow_ten_le i (12 - i))

rest_is : (text : List ℕ) (n : ℕ) → take (length text - n) (drop n text) ≡ drop n text
rest_is text n = grind (arith, common_steps)

-- the digits end here
module _ (least most : ℕ) (text : List ℕ) (n : ℕ) (few : n ≤ most) (within : n ≤ length text) (digits : (k : ℕ) → k < n → is_digit (get_or text k 0) ≡ true) (stops : n < length text → is_digit (get_or text n 0) ≡ false) where
  run_is : prefix_len is_digit text ≡ n
  run_is = prefix_len_is is_digit text n 0 within digits stops

  pub number_short : n < least → None ≡ number_at least most text
  number_short short = rw run_is (grind (arith, nat_tests))

  pub number_found : (number : ℕ) → least ≤ n → number ≡ decimal_value (take n text) → Some (number, drop n text) ≡ number_at least most text
  number_found number enough is = rw (run_is, is) (grind (arith, nat_tests))

  pub number_found_part : (number : ℕ) → least ≤ n → number ≡ decimal_value (take n text) → Some (number, take (length text - n) (drop n text)) ≡ number_at least most text
  number_found_part number enough is = rw rest_is (number_found number enough is)

  pub number_found_whole : (number : ℕ) → length text ≤ n → least ≤ n → number ≡ decimal_value (take n text) → Some (number, []) ≡ number_at least most text
  number_found_whole number whole enough is = let e : drop n text ≡ [] = drop_of_length-le text whole in rw (← e) (number_found number enough is)

short_run : (most : ℕ) (text : List ℕ) (n : ℕ) → most < length text → ((k : ℕ) → k < most + 1 → is_digit (get_or text k 0) ≡ true) → (n < length text → is_digit (get_or text n 0) ≡ false) → n ≤ most → ⊥
short_run most text n within digits stops few = false≢true (sym (stops (omega arith)) ∙ digits n (omega arith))

-- there are more digits than may be
pub number_goes_on : (least most : ℕ) (text : List ℕ) (n : ℕ) → n ≡ most → n < length text → ((k : ℕ) → k < n → is_digit (get_or text k 0) ≡ true) → is_digit (get_or text n 0) ≡ true → None ≡ number_at least most text
number_goes_on least most text n is within digits here =
    let longer : n < prefix_len is_digit text = elim (cases_lt n (prefix_len is_digit text)) [ inl h ↦ h | inr h ↦ absurd (short_run n text (prefix_len is_digit text) within (below_more (λ k. is_digit (get_or text k 0) ≡ true) n digits here) (prefix_len_stops is_digit text 0) h) ] in
    grind (arith, nat_tests)

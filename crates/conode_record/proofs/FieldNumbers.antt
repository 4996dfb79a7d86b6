-- Hexadecimal digits as a number, and how many pairs of them there are.
use Rattle.std.proofs.Common.{◌≡◌, ℕ, zero, suc, ◌+◌, ◌-◌, ◌*◌, ◌^◌, ◌<◌, ◌≤◌, List, length, Some, None, ap, arith}
use Rattle.std.proofs.lemmas.Bool.Decides.{nat_tests}
use Rattle.std.proofs.Math.Nat.{pow-suc, add-suc}
use Rattle.co_text.specs.HexPairs.{pair_at}
use Rattle.co_text.proofs.Pairs.{AreRead, read_all}
use Rattle.conode_record.specs.Contents.{few_pairs}

-- a power of a greater exponent is not less
pow_le : (i j : ℕ) → 16 ^ i ≤ 16 ^ (i + j)
pow_le i zero = grind arith
pow_le i (suc j) = let e : 16 ^ (i + suc j) ≡ 16 ^ (i + j) * 16 = rw add-suc (pow-suc 16 (i + j)) in omega (arith, pow_le i j, e)

-- up to eight digits are below this
pub below_eight : (number i : ℕ) → number < 16 ^ i → i ≤ 8 → number < 16 ^ 8
below_eight number i h few = let e : i + (8 - i) ≡ 8 = omega arith in omega (arith, ap (λ k. 16 ^ k) e, pow_le i (8 - i))

-- all pairs are read, and they are few
pub pairs_all : (most : ℕ) (text bytes rest : List ℕ) → AreRead text bytes rest → pair_at rest ≡ None → length bytes ≤ most → Some (bytes, rest) ≡ few_pairs most text
pairs_all most text bytes rest h e few = rw (read_all text bytes rest h e) (grind (arith, nat_tests))

-- Pairs of hexadecimal digits.
use Rattle.std.proofs.Common.{◌≡◌, ℕ, ◌/◌, List, [], ◌∷◌, length, refl, arith}
use Rattle.co_dict_build.specs.Capacities.{decoded}

-- each pair is one byte
pub length-decoded : (digits : List ℕ) → length digits / 2 ≡ length (decoded digits)
length-decoded [] = refl
length-decoded (digit ∷ []) = refl
length-decoded (high ∷ low ∷ digits) = let rest = length-decoded digits in omega (arith, rest)

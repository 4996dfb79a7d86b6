-- The numbers that `byteorder` reads are those that the bytes stand for.
use Rattle.std.proofs.Common.{◌≡◌, ℕ, ◌+◌, ◌*◌, List, [], ◌∷◌, length, refl, ap, ◌∙◌}
use Rattle.byteorder.specs.Endian.{little_number}
use Rattle.byteorder.specs.Numbers.{little_from-cons}
use Rattle.co_value.specs.Numbers.{unsigned_of}

pub little-is : (bytes : List ℕ) → little_number (length bytes) bytes ≡ unsigned_of bytes
little-is [] = refl
little-is (x ∷ xs) = ap (λ (rest : ℕ). x + 256 * rest) (little_from-cons 0 (length xs) x xs ∙ little-is xs)

-- The first bytes of a number.
use Rattle.std.proofs.Common.{◌≡◌, ℕ, zero, suc, ◌≤◌, List, ◌∷◌, length, take, refl, ap, arith}
use Rattle.std.specs.Int.{byte_at, bytes_low_first}

pub take_low : (first count more number : ℕ) → count ≤ more → take count (bytes_low_first first more number) ≡ bytes_low_first first count number
take_low first zero more number few = refl
take_low first (suc count) zero number few = absurd (omega arith)
take_low first (suc count) (suc more) number few =
    ap (λ (bytes : List ℕ). byte_at first number ∷ bytes) (take_low (suc first) count more number (omega arith))

pub low_length : (first count number : ℕ) → length (bytes_low_first first count number) ≡ count
low_length first zero number = refl
low_length first (suc count) number = ap suc (low_length (suc first) count number)

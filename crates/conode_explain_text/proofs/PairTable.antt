-- The table of bytes in two hexadecimal digits.
use Rattle.std.proofs.Common.{◌≡◌, ℕ, zero, suc, ◌+◌, ◌-◌, ◌*◌, ◌<◌, List, [], ◌∷◌, length, get_or, take, drop, refl, ap, ◌∙◌, arith}
use Rattle.std.specs.List.{flat_map, range_with_len}
use Rattle.std.proofs.lemmas.List.FromFn.{get_or-range_with_len}
use Rattle.conode_explain_text.specs.declared.pieces.TheConstants.{PAIRS}
use Rattle.co_text.specs.Printed.{byte_text, digits_text}

table : PAIRS ≡ flat_map byte_text (range_with_len 0 256)
unfolding digits_text
table = refl

-- two digits for each
at : (bytes : List ℕ) (i : ℕ) → i < length bytes → take 2 (drop (i * 2) (flat_map byte_text bytes)) ≡ byte_text (get_or bytes i 0)
unfolding digits_text
at [] i below = absurd (omega (arith, below))
at (x ∷ xs) zero below = refl
at (x ∷ xs) (suc i) below =
    let place : suc i * 2 ≡ suc (suc (i * 2)) = omega arith in
    ap (λ (n : ℕ). take 2 (drop n (flat_map byte_text (x ∷ xs)))) place ∙ at xs i (omega (arith, below))

pub looked_up : (byte : ℕ) → byte < 256 → take (byte * 2 + 2 - byte * 2) (drop (byte * 2) PAIRS) ≡ byte_text byte
looked_up byte below =
    let two : byte * 2 + 2 - byte * 2 ≡ 2 = omega arith in
    let own : 0 + byte ≡ byte = omega arith in
    ap (λ (count : ℕ). take count (drop (byte * 2) PAIRS)) two
    ∙ ap (λ (digits : List ℕ). take 2 (drop (byte * 2) digits)) table
    ∙ at (range_with_len 0 256) byte below
    ∙ ap byte_text (get_or-range_with_len 0 256 byte 0 below ∙ own)

-- The table of hexadecimal digits.
use Rattle.std.proofs.Common.{◌≡◌, ℕ, ◌<◌, ◌≤◌, ◌&&◌, List, Option, Some, None, IfSome, map, get_or, leb, refl, ap, ◌∙◌, arith}
use Rattle.std.specs.Prelude.{unwrap_or}
use Rattle.std.specs.List.{range_with_len}
use Rattle.std.proofs.lemmas.Bool.Decides.{nat_tests}
use Rattle.std.proofs.lemmas.List.FromFn.{get_or-map-range_with_len}
use Rattle.co_text.specs.declared.hex_digits.TheConstants.{HEX_DIGITS}
use Rattle.co_text.specs.Texts.{is_digit, hex_digit}
use Rattle.co_text.proofs.Tests.{by_test}

-- the value of a digit, or 16
abbrev pub table_value : ℕ → ℕ
table_value byte = unwrap_or (hex_digit byte) 16

table : HEX_DIGITS ≡ map table_value (range_with_len 0 256)
table = refl

pub looked_up : (byte : ℕ) → byte < 256 → get_or HEX_DIGITS byte 0 ≡ table_value byte
looked_up byte below = ap (λ (digits : List ℕ). get_or digits byte 0) table ∙ get_or-map-range_with_len table_value 0 256 byte byte 0 below (omega arith)

small_digit : (byte : ℕ) → IfSome (hex_digit byte) (λ digit. digit < 16)
small_digit byte = by_test (is_digit byte)
    (λ a. rw a (grind (arith, nat_tests, a)))
    (λ a. by_test (leb 65 byte && leb byte 70)
    (λ b. rw (a, b) (grind (arith, nat_tests, b)))
    (λ b. by_test (leb 97 byte && leb byte 102)
    (λ c. rw (a, b, c) (grind (arith, nat_tests, c)))
    (λ c. rw (a, b, c) tt)))

found : (value : ℕ) (o : Option ℕ) → value ≡ unwrap_or o 16 → value < 16 → Some value ≡ o
found value None e h = absurd (omega arith)
found value (Some digit) e h = ap Some e

none : (value : ℕ) (o : Option ℕ) → IfSome o (λ digit. digit < 16) → value ≡ unwrap_or o 16 → 16 ≤ value → None ≡ o
none value None small e h = refl
none value (Some digit) small e h = absurd (omega (arith, small))

pub digit_found : (byte value : ℕ) → value ≡ table_value byte → value < 16 → Some value ≡ hex_digit byte
digit_found byte value e h = found value (hex_digit byte) e h

pub no_digit : (byte value : ℕ) → value ≡ table_value byte → 16 ≤ value → None ≡ hex_digit byte
no_digit byte value e h = none value (hex_digit byte) (small_digit byte) e h

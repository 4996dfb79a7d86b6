-- Numbers as they are written (CiA 306, numerals): decimal, negative, hexadecimal.
use Rattle.std.specs.Prelude.{ℕ, ◌-◌, ◌*◌, ◌^◌, Bool, true, false, ◌&&◌, not, ◌==◌, nat_le, nat_lt, if◌then◌else◌, ℤ, pos, neg_ℤ, ◌+ℤ◌, List, [], ◌∷◌, drop, take, codes, Result, Ok, Err, unwrap_or, nat_abs}
use Rattle.std.specs.List.{list_all}
use Rattle.std.specs.Char.{is_digit}
use Rattle.co_value.specs.declared.data_type.DataType.{DataType}
use Rattle.co_value.specs.Types.{width_of, is_signed}
use Rattle.co_sheet_text.specs.declared.numeral.Numeral.{Numeral}
use Rattle.co_sheet_text.specs.declared.numeral.Numeral.TheVariants.{Decimal, Hexadecimal}
use Rattle.co_sheet_text.specs.declared.numeral.NumeralFault.{NumeralFault}
use Rattle.co_sheet_text.specs.declared.numeral.NumeralFault.TheVariants.{Malformed, Ambiguous}
use Rattle.co_sheet_text.specs.Text.{is_empty, same_name}
use Rattle.co_sheet_text.specs.Names.{number_in}

-- digits of a base, at least one, of a number below 2 ^ 64
abbrev pub is_number_in : ℕ → List ℕ → Bool
is_number_in base text =
    not (is_empty text) && list_all (λ c. is_digit c base) text
    && nat_lt (number_in base text) (2 ^ 64)

-- zeros and a last digit from 0 to 7: the same number in octal and in decimal
abbrev pub is_below_8 : List ℕ → Bool
is_below_8 [] = true
is_below_8 (digit ∷ []) = nat_le digit 55
is_below_8 (digit ∷ next ∷ digits) = (digit == 48) && is_below_8 (next ∷ digits)

-- digits that begin with 0 might be meant as octal: they are read only where that is the same
-- number
abbrev pub is_ambiguous : List ℕ → Bool
is_ambiguous [] = false
is_ambiguous (digit ∷ digits) = (digit == 48) && not (is_below_8 digits)

-- the number of decimal digits, where they are not ambiguous
abbrev pub decimal_number : List ℕ → Result ℕ NumeralFault
decimal_number text =
    if not (is_number_in 10 text) then Err Malformed
    else if is_ambiguous text then Err Ambiguous
    else Ok (number_in 10 text)

-- the number after `0x`
abbrev pub hexadecimal_number : List ℕ → Result ℕ NumeralFault
hexadecimal_number text = if is_number_in 16 text then Ok (number_in 16 text) else Err Malformed

-- a result with what is read changed, and the fault kept
abbrev pub result_map : {X Y : Type 0} → (X → Y) → Result X NumeralFault → Result Y NumeralFault
result_map f (Ok x) = Ok (f x)
result_map f (Err e) = Err e

-- a numeral that isn't negative, and one that may be
abbrev pub unsigned_numeral : List ℕ → Result Numeral NumeralFault
unsigned_numeral text =
    if same_name (take 2 text) (codes "0x")
    then result_map Hexadecimal (hexadecimal_number (drop 2 text))
    else result_map (λ n. Decimal (pos n)) (decimal_number text)

abbrev pub signed_numeral : List ℕ → Result Numeral NumeralFault
signed_numeral [] = Err Malformed
signed_numeral (b ∷ bs) =
    if b == 45 then result_map (λ n. Decimal (neg_ℤ (pos n))) (decimal_number bs)
    else unsigned_numeral (b ∷ bs)

-- the number of a numeral that isn't negative
abbrev pub magnitude : Numeral → ℕ
magnitude (Decimal z) = nat_abs z
magnitude (Hexadecimal n) = n

-- the number that an unsigned numeral writes
abbrev pub unsigned_number : List ℕ → Result ℕ NumeralFault
unsigned_number text = result_map magnitude (unsigned_numeral text)

-- two's complement: a number of this many bits whose top bit is set means itself less 2 ^ bits
abbrev pub hexadecimal_value : ℕ → ℕ → ℤ
hexadecimal_value bits n =
    if nat_le (2 ^ (bits - 1)) n && nat_lt n (2 ^ bits) then pos n +ℤ neg_ℤ (pos (2 ^ bits))
    else pos n

-- the number that a numeral means at a type
abbrev pub value_at : DataType → Numeral → ℤ
value_at t (Decimal z) = z
value_at t (Hexadecimal n) =
    if is_signed t then hexadecimal_value (8 * unwrap_or (width_of t) 0) n else pos n

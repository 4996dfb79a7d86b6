-- How numbers are printed in digits.
use Rattle.std.specs.Prelude.{ℕ, zero, suc, ◌+◌, ◌/◌, ◌%◌, nat_lt, if◌then◌else◌, List, [], ◌∷◌, ◌++◌}

-- a digit, from ten on a letter in upper case
abbrev pub printed_digit : ℕ → ℕ
printed_digit digit = if nat_lt digit 10 then 48 + digit else 55 + digit

-- the last digits of a number in a base of at most 16, as many as are asked for
unfoldable pub digits_text : ℕ → ℕ → ℕ → List ℕ
digits_text base zero number = []
digits_text base (suc count) number =
    digits_text base count (number / base) ++ printed_digit (number % base) ∷ []

-- a byte in two hexadecimal digits
abbrev pub byte_text : ℕ → List ℕ
byte_text byte = digits_text 16 2 byte

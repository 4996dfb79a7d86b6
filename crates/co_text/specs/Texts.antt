-- Bytes and digits of a text.
use Rattle.std.specs.Prelude.{ℕ, ◌+◌, ◌-◌, ◌*◌, ◌==◌, nat_le, nat_lt, Bool, ◌&&◌, ◌||◌, if◌then◌else◌, List, length, Option, Some, None, is_some, fold, option_and_then}
use Rattle.std.specs.List.{list_all}

infixl 10 ◌>>=◌
abbrev pub ◌>>=◌ : {A B : Type 0} → Option A → (A → Option B) → Option B
o >>= f = option_and_then f o

-- a space or a tab
abbrev pub is_blank : ℕ → Bool
is_blank byte = (byte == 32) || (byte == 9)

-- `0` to `9`
abbrev pub is_digit : ℕ → Bool
is_digit byte = nat_le 48 byte && nat_le byte 57

-- decimal digits as a number
abbrev pub decimal_value : List ℕ → ℕ
decimal_value digits = fold (λ number digit. 10 * number + (digit - 48)) 0 digits

-- one or more decimal digits that are a number from least to most; leading zeros are allowed
abbrev pub decimal_in : ℕ → ℕ → List ℕ → Option ℕ
decimal_in least most word =
    let number = decimal_value word in
    if nat_lt 0 (length word) && list_all is_digit word && nat_le least number && nat_le number most
    then Some number else None

-- the value of a hexadecimal digit, in either case
abbrev pub hex_digit : ℕ → Option ℕ
hex_digit byte =
    if is_digit byte then Some (byte - 48)
    else (if nat_le 65 byte && nat_le byte 70 then Some (byte - 55)
    else (if nat_le 97 byte && nat_le byte 102 then Some (byte - 87) else None))

abbrev pub is_hex_digit : ℕ → Bool
is_hex_digit byte = is_some (hex_digit byte)

-- two hexadecimal digits as a byte
abbrev pub hex_pair : ℕ → ℕ → Option ℕ
hex_pair high low = hex_digit high >>= λ h. hex_digit low >>= λ l. Some (16 * h + l)

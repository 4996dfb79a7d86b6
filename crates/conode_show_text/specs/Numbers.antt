-- Numbers in both bases.
use Rattle.std.specs.Prelude.{ℕ, suc, ◌*◌, ◌/◌, ◌^◌, ◌||◌, Bool, true, false, nat_lt, if◌then◌else◌, List, [], ◌++◌, ℤ, pos, negsuc, codes, Option, Some, None}
use Rattle.std.specs.Option.{option_map_or}
use Rattle.std.specs.Fmt.{digits, signed_decimal}
use Rattle.co_value.specs.Numbers.{bits_of}

-- hexadecimal digits, as many as the number needs, and `h`
unfoldable pub hex_text : ℕ → List ℕ
hex_text number = digits 16 true number ++ codes "h"

-- a number of at most 64 bits
abbrev pub if_small : ℕ → Option ℕ
if_small number = if nat_lt number (2 ^ 64) then Some number else None

-- 0 to 9, whose digits are the same in both bases
abbrev pub is_one_digit : ℤ → Bool
is_one_digit (pos n) = nat_lt n 10
is_one_digit (negsuc n) = false

-- a negative number below the least one of a signed type of so many bits: it has no two's complement in them
abbrev pub is_below : ℕ → ℤ → Bool
is_below bits (pos n) = false
is_below bits (negsuc n) = nat_lt (2 ^ bits / 2) (suc n)

-- a number that is in decimal alone
abbrev pub is_plain : ℕ → ℤ → Bool
is_plain bits number = is_one_digit number || is_below bits number

-- a number in hexadecimal digits in parentheses
unfoldable pub in_parentheses : Option ℕ → List ℕ
in_parentheses number = option_map_or (λ n. codes " (" ++ hex_text n ++ codes ")") number []

-- a number of a type of so many bytes: in decimal, and in hexadecimal digits if these differ, as
-- `1000 (3E8h)`; a negative one in two's complement, as `-100 (FF9Ch)`, if the type's bits have it
unfoldable pub number_text : ℕ → ℤ → List ℕ
number_text width number =
    signed_decimal number
    ++ (if is_plain (8 * width) number then [] else in_parentheses (if_small (bits_of (8 * width) number)))

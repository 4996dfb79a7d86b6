-- The text of REAL32 and REAL64 (CiA 301, 7.1.4.8; IEEE 754): the fewest decimal digits that are
-- read as the same bits.
use Rattle.std.specs.Prelude.{ℕ, zero, suc, ◌+◌, ◌-◌, ◌*◌, ◌/◌, ◌%◌, ◌^◌, ◌==◌, max, nat_le, nat_lt, Bool, false, ◌&&◌, if◌then◌else◌, List, [], ◌++◌, length, codes, decimal, Option, Some, None, option_and_then, to_bits}
use Rattle.std.specs.Option.{option_map_or, option_or}
use Rattle.std.specs.Float.{float_is_finite}
use Rattle.std.specs.Float.Ieee.{Float, Format, binary32, binary64, hid, low, ones, top}
use Rattle.std.specs.Float.Parse.{parse_float}
use Rattle.co_text.specs.Printed.{digits_text}
use Rattle.conode_explain_values.specs.declared.real.Real.{Real}
use Rattle.conode_explain_values.specs.declared.real.Real.TheVariants.{Real32, Real64}
use Rattle.conode_explain_values.specs.declared.scaled.Scaled.{Scaled}

-- ---- the fields of the bits

abbrev pub format_of : Real → Format
format_of Real32 = binary32
format_of Real64 = binary64

abbrev pub is_negative : Format → ℕ → Bool
is_negative f bits = nat_le (top f) bits

abbrev pub exponent_of : Format → ℕ → ℕ
exponent_of f bits = bits % top f / hid f

abbrev pub fraction_of : Format → ℕ → ℕ
fraction_of f bits = bits % hid f

-- the number without its sign is significand × 2 ^ max 1 exponent / 2 ^ (low f + 1)
abbrev pub significand_of : Format → ℕ → ℕ
significand_of f bits = if exponent_of f bits == 0 then fraction_of f bits else hid f + fraction_of f bits

-- ---- in powers of ten: digits × 10 ^ tens / 10 ^ 1100; digits past the 37th don't count

abbrev pub origin : ℕ
origin = 1100

abbrev pub half : Scaled → Scaled
half d =
    if nat_lt d.digits (2 ^ 125) then record { digits = 5 * d.digits; tens = d.tens - 1 }
    else record { digits = d.digits / 2; tens = d.tens }

abbrev pub twice : Scaled → Scaled
twice d =
    if nat_lt d.digits (2 ^ 125) then record { digits = 2 * d.digits; tens = d.tens }
    else record { digits = d.digits / 5; tens = d.tens + 1 }

unfoldable pub halved : ℕ → Scaled → Scaled
halved zero d = d
halved (suc count) d = halved count (half d)

unfoldable pub doubled : ℕ → Scaled → Scaled
doubled zero d = d
doubled (suc count) d = doubled count (twice d)

abbrev pub power_of_two : ℕ → ℕ → ℕ → Scaled
power_of_two significand up down = doubled (up - down) (halved (down - up) (record { digits = significand; tens = origin }))

abbrev pub scaled : Format → ℕ → Scaled
scaled f bits = power_of_two (significand_of f bits) (max 1 (exponent_of f bits)) (low f + 1)

-- ---- the text of number × 10 ^ tens / 10 ^ 1100

-- a number / 10 ^ places
unfoldable pub fixed_text : ℕ → ℕ → List ℕ
fixed_text number places =
    decimal (number / 10 ^ places)
    ++ (if places == 0 then [] else codes "." ++ digits_text 10 places (number % 10 ^ places))

abbrev pub exponent_text : ℕ → List ℕ
exponent_text tens =
    if nat_le origin tens then decimal (tens - origin) else codes "-" ++ decimal (origin - tens)

-- how many digits come after the first
abbrev pub later_digits : ℕ → ℕ
later_digits number = length (decimal number) - 1

-- `1.25e-7`
abbrev pub power_text : ℕ → ℕ → List ℕ
power_text number tens =
    fixed_text number (later_digits number) ++ codes "e" ++ exponent_text (tens + later_digits number)

-- at most 18 places after the point, and at most four zeros before the first digit
abbrev pub is_fixed : ℕ → ℕ → Bool
is_fixed number tens =
    nat_lt tens origin && (nat_le (origin - tens) 18 && nat_le (10 ^ (origin - tens)) (100000 * number))

-- a whole number of at most 16 digits
abbrev pub is_short : ℕ → ℕ → Bool
is_short number tens =
    nat_le origin tens && (nat_le (tens - origin) 16 && nat_lt (number * 10 ^ (tens - origin)) (10 ^ 16))

abbrev pub digits_shown : ℕ → ℕ → List ℕ
digits_shown number tens =
    if is_fixed number tens then fixed_text number (origin - tens)
    else (if is_short number tens then decimal (number * 10 ^ (tens - origin)) ++ codes ".0"
    else power_text number tens)

abbrev pub sign_text : Bool → List ℕ
sign_text is_negative = if is_negative then codes "-" else []

-- ---- the fewest digits that are read as the same bits

-- the bits of the nearest number of a format, where a text is a number and not too great; conode
-- adapt reads defaults so
abbrev pub finite_bits : Format → Float → Option ℕ
finite_bits f x = if float_is_finite x then Some (to_bits f x) else None

abbrev pub read_bits : Format → List ℕ → Option ℕ
read_bits f text = option_and_then (finite_bits f) (parse_float f text)

abbrev pub is_read_as : Format → ℕ → List ℕ → Bool
is_read_as f bits text = option_map_or (λ b. b == bits) (read_bits f text) false

-- digits rounded to a multiple of 10 ^ places, and counted in that unit
abbrev pub rounded : ℕ → ℕ → ℕ
rounded places digits = (digits + 10 ^ places / 2) / 10 ^ places

abbrev pub rounded_text : Bool → ℕ → ℕ → List ℕ
rounded_text is_negative number tens = sign_text is_negative ++ digits_shown number tens

-- a text of at most 18 digits, where it is read as these bits
abbrev pub text_if_read : Format → ℕ → List ℕ → Option (List ℕ)
text_if_read f bits text = if is_read_as f bits text then Some text else None

abbrev pub text_of_digits : Format → ℕ → ℕ → ℕ → Option (List ℕ)
text_of_digits f bits number tens =
    if nat_lt 0 number && nat_lt number (10 ^ 18) then text_if_read f bits (rounded_text (is_negative f bits) number tens)
    else None

abbrev pub text_at : Format → ℕ → Scaled → ℕ → Option (List ℕ)
text_at f bits d places = text_of_digits f bits (rounded places d.digits) (d.tens + places)

-- the first of them from so many places on down
unfoldable pub text_from : Format → ℕ → Scaled → ℕ → Option (List ℕ)
text_from f bits d zero = None
text_from f bits d (suc places) = option_or (text_at f bits d places) (text_from f bits d places)

-- ---- the text of a REAL

-- of a number that isn't finite, and of zero
abbrev pub real_text : Format → ℕ → Option (List ℕ)
real_text f bits =
    if exponent_of f bits == ones f
    then Some (if fraction_of f bits == 0 then sign_text (is_negative f bits) ++ codes "inf" else codes "NaN")
    else (if significand_of f bits == 0 then Some (sign_text (is_negative f bits) ++ codes "0.0")
    else text_from f bits (scaled f bits) 39)

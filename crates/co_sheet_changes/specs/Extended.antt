-- Numbers of signed types with their sign extended to more bytes than the type has (CiA 306, object
-- description; CiA 301, INTEGERn).
use Rattle.std.specs.Prelude.{ℕ, ◌+◌, ◌-◌, ◌*◌, ◌^◌, Bool, false, ◌&&◌, ◌||◌, nat_le, nat_lt, if◌then◌else◌, List, codes, ◌++◌, Option, Some, None, option_and_then, Result, Ok}
use Rattle.std.specs.Option.{option_map_or}
use Rattle.co_text.specs.Printed.{digits_text}
use Rattle.co_value.specs.declared.data_type.DataType.{DataType}
use Rattle.co_sheet_text.specs.declared.numeral.Numeral.{Numeral}
use Rattle.co_sheet_text.specs.declared.numeral.Numeral.TheVariants.{Hexadecimal}
use Rattle.co_sheet_text.specs.declared.numeral.NumeralFault.{NumeralFault}
use Rattle.co_sheet_text.specs.Numerals.{signed_numeral}
use Rattle.co_sheet_changes.specs.Groups.{Group, value_in}
use Rattle.co_sheet_changes.specs.Limits.{data_type_of, is_limit, is_low, signed_width}

-- the number of hexadecimal digits after `0x`
abbrev pub hexadecimal_of : Result Numeral NumeralFault → Option ℕ
hexadecimal_of (Ok (Hexadecimal n)) = Some n
hexadecimal_of other = None

abbrev pub hexadecimal_in : List ℕ → Option ℕ
hexadecimal_in text = hexadecimal_of (signed_numeral text)

-- a number of this many bits is a negative one of a smaller width, in bytes, with its sign extended
abbrev pub is_extended_to : ℕ → ℕ → ℕ → Bool
is_extended_to bits width n =
    nat_lt (8 * width) bits && nat_le (2 ^ bits) (n + 2 ^ (8 * width - 1)) && nat_lt n (2 ^ bits)

abbrev pub is_sign_extended : ℕ → ℕ → Bool
is_sign_extended width n =
    is_extended_to 16 width n || is_extended_to 32 width n || is_extended_to 64 width n

-- a negative value of a type has its sign extended
abbrev pub is_extended_by : ℕ → List ℕ → Bool
is_extended_by width value = option_map_or (is_sign_extended width) (hexadecimal_in value) false

abbrev pub is_extended : DataType → List ℕ → Bool
is_extended t value = option_map_or (λ width. is_extended_by width value) (signed_width t) false

-- such a value in the bytes of its type
abbrev pub in_bytes : ℕ → ℕ → List ℕ
in_bytes width n = codes "0x" ++ digits_text 16 (2 * width) n

abbrev pub within_width : ℕ → ℕ → Option (List ℕ)
within_width width n = if is_sign_extended width n then Some (in_bytes width n) else None

abbrev pub sign_extended : DataType → List ℕ → Option (List ℕ)
sign_extended t value =
    option_and_then (λ width. option_and_then (within_width width) (hexadecimal_in value))
    (signed_width t)

-- LowLimit is such a value
abbrev pub has_extended_low : Group → Bool
has_extended_low g =
    option_map_or
    (λ t. option_map_or (is_extended t) (value_in (codes "LowLimit") g.body) false)
    (data_type_of g) false

-- A limit that is read as a negative number with its sign extended. HighLimit only beside such a
-- LowLimit: else it would be below it, or may be the greatest number of a wider unsigned type.
abbrev pub is_extended_limit : Bool → DataType → List ℕ → List ℕ → Bool
is_extended_limit extended_low t name value =
    is_limit name && (is_low name || extended_low) && is_extended t value

-- Data types that are left out, and the types of as many bytes that stand for them (CiA 301, data
-- types).
use Rattle.std.specs.Prelude.{ℕ, Bool, true, false, not, ◌==◌, nat_lt, if◌then◌else◌, List, ◌++◌, flat_map, codes, Option, Some, None, option_map, option_and_then, is_some, is_ok}
use Rattle.std.specs.Option.{option_map_or}
use Rattle.std.specs.List.{list_all}
use Rattle.std.specs.Float.{float_is_finite}
use Rattle.std.specs.Float.Ieee.{Float, Format, binary32, binary64, to_bits}
use Rattle.std.specs.Float.Parse.{parse_float}
use Rattle.co_text.specs.Printed.{digits_text, byte_text}
use Rattle.co_sheet_text.specs.Numerals.{unsigned_number}
use Rattle.co_sheet_adapt.specs.declared.left_out.LeftOut.{LeftOut}
use Rattle.co_sheet_adapt.specs.declared.left_out.LeftOut.TheVariants.{Real32, UnicodeString, TimeOfDay, TimeDifference, Real64}

-- by its code
abbrev pub left_out_with : ℕ → Option LeftOut
left_out_with code =
    if code == 0x08 then Some Real32
    else if code == 0x0B then Some UnicodeString
    else if code == 0x0C then Some TimeOfDay
    else if code == 0x0D then Some TimeDifference
    else if code == 0x11 then Some Real64
    else None

abbrev pub left_out_code : LeftOut → ℕ
left_out_code Real32 = 0x08
left_out_code UnicodeString = 0x0B
left_out_code TimeOfDay = 0x0C
left_out_code TimeDifference = 0x0D
left_out_code Real64 = 0x11

-- UNSIGNED32, OCTET_STRING, UNSIGNED48 and UNSIGNED64
abbrev pub code_in_place : LeftOut → ℕ
code_in_place Real32 = 0x07
code_in_place UnicodeString = 0x0A
code_in_place TimeOfDay = 0x19
code_in_place TimeDifference = 0x19
code_in_place Real64 = 0x1B

abbrev pub is_real : LeftOut → Bool
is_real Real32 = true
is_real Real64 = true
is_real t = false

-- the bits of the nearest number of a format, where a text is a number and not too great
abbrev pub finite_bits : Format → Float → Option ℕ
finite_bits format x = if float_is_finite x then Some (to_bits format x) else None

abbrev pub real_bits : Format → List ℕ → Option ℕ
real_bits format text = option_and_then (finite_bits format) (parse_float format text)

abbrev pub real32_bits : List ℕ → Option ℕ
real32_bits text = real_bits binary32 text

abbrev pub real64_bits : List ℕ → Option ℕ
real64_bits text = real_bits binary64 text

-- a number in this many hexadecimal digits
abbrev pub hexadecimal : ℕ → ℕ → List ℕ
hexadecimal count number = codes "0x" ++ digits_text 16 count number

-- a text of ASCII in UTF-16, the low byte of each character first, in pairs of hexadecimal digits
abbrev pub utf16_byte : ℕ → List ℕ
utf16_byte byte = byte_text byte ++ byte_text 0

abbrev pub utf16_text : List ℕ → Option (List ℕ)
utf16_text text =
    if list_all (λ byte. nat_lt byte 0x80) text then Some (flat_map utf16_byte text) else None

-- a number stays as it is written
abbrev pub number_text : List ℕ → Option (List ℕ)
number_text text = if is_ok (unsigned_number text) then Some text else None

-- a value of the type, as it is written at the type that stands for it
abbrev pub value_in_place : LeftOut → List ℕ → Option (List ℕ)
value_in_place Real32 text = option_map (hexadecimal 8) (real32_bits text)
value_in_place Real64 text = option_map (hexadecimal 16) (real64_bits text)
value_in_place UnicodeString text = utf16_text text
value_in_place TimeOfDay text = number_text text
value_in_place TimeDifference text = number_text text

-- a value that keeps the type of a code from being replaced; none where no other stands for the type
abbrev pub is_inconvertible : ℕ → List ℕ → Bool
is_inconvertible code value =
    option_map_or (λ t. not (is_some (value_in_place t value))) (left_out_with code) false

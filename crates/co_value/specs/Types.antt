-- The data types of entries: their codes, widths and ranges (CiA 301, 7.4.7.1).
use Rattle.std.specs.Prelude.{ℕ, ◌-◌, ◌*◌, ◌^◌, ◌≤ℤ◌, ◌==◌, Bool, true, false, if◌then◌else◌, ℤ, pos, neg_ℤ, Option, Some, None, option_map, IsSomeAnd}
use Rattle.co_value.specs.declared.data_type.DataType.{DataType}
use Rattle.co_value.specs.declared.data_type.DataType.TheVariants.{Boolean, Integer8, Integer16, Integer24, Integer32, Integer40, Integer48, Integer56, Integer64, Unsigned8, Unsigned16, Unsigned24, Unsigned32, Unsigned40, Unsigned48, Unsigned56, Unsigned64, VisibleString, OctetString, Domain}

-- the index of the type's definition entry, by which a data sheet names the type
abbrev pub code_of : DataType → ℕ
code_of Boolean = 0x01
code_of Integer8 = 0x02
code_of Integer16 = 0x03
code_of Integer24 = 0x10
code_of Integer32 = 0x04
code_of Integer40 = 0x12
code_of Integer48 = 0x13
code_of Integer56 = 0x14
code_of Integer64 = 0x15
code_of Unsigned8 = 0x05
code_of Unsigned16 = 0x06
code_of Unsigned24 = 0x16
code_of Unsigned32 = 0x07
code_of Unsigned40 = 0x18
code_of Unsigned48 = 0x19
code_of Unsigned56 = 0x1A
code_of Unsigned64 = 0x1B
code_of VisibleString = 0x09
code_of OctetString = 0x0A
code_of Domain = 0x0F

-- the number of bytes of a numeric type; strings and domains have none
abbrev pub width_of : DataType → Option ℕ
width_of Boolean = Some 1
width_of Integer8 = Some 1
width_of Integer16 = Some 2
width_of Integer24 = Some 3
width_of Integer32 = Some 4
width_of Integer40 = Some 5
width_of Integer48 = Some 6
width_of Integer56 = Some 7
width_of Integer64 = Some 8
width_of Unsigned8 = Some 1
width_of Unsigned16 = Some 2
width_of Unsigned24 = Some 3
width_of Unsigned32 = Some 4
width_of Unsigned40 = Some 5
width_of Unsigned48 = Some 6
width_of Unsigned56 = Some 7
width_of Unsigned64 = Some 8
width_of VisibleString = None
width_of OctetString = None
width_of Domain = None

-- whether the type's numbers are in two's complement
abbrev pub is_signed : DataType → Bool
is_signed Integer8 = true
is_signed Integer16 = true
is_signed Integer24 = true
is_signed Integer32 = true
is_signed Integer40 = true
is_signed Integer48 = true
is_signed Integer56 = true
is_signed Integer64 = true
is_signed Boolean = false
is_signed Unsigned8 = false
is_signed Unsigned16 = false
is_signed Unsigned24 = false
is_signed Unsigned32 = false
is_signed Unsigned40 = false
is_signed Unsigned48 = false
is_signed Unsigned56 = false
is_signed Unsigned64 = false
is_signed VisibleString = false
is_signed OctetString = false
is_signed Domain = false

-- whether the type is BOOLEAN
abbrev pub is_boolean : DataType → Bool
is_boolean t = code_of t == 0x01

-- the smallest number of a width, where the numbers are signed or not
abbrev pub least_at : Bool → ℕ → ℤ
least_at signed width = if signed then neg_ℤ (pos (2 ^ (8 * width - 1))) else pos 0

-- the greatest number of a width
abbrev pub greatest_at : Bool → ℕ → ℤ
greatest_at signed width = if signed then pos (2 ^ (8 * width - 1) - 1) else pos (2 ^ (8 * width) - 1)

-- the smallest number of a numeric type
abbrev pub least_of : DataType → Option ℤ
least_of t = option_map (least_at (is_signed t)) (width_of t)

-- the greatest number of a numeric type; BOOLEAN has 0 and 1
abbrev pub greatest_of : DataType → Option ℤ
greatest_of t = if is_boolean t then Some (pos 1) else option_map (greatest_at (is_signed t)) (width_of t)

-- the number is one that the type's width has room for; a BOOLEAN's byte may be any
abbrev pub FitsWidth : DataType → ℤ → Type 0
FitsWidth t value = IsSomeAnd (width_of t) (λ width. (least_at (is_signed t) width ≤ℤ value) × (value ≤ℤ greatest_at (is_signed t) width))

-- the number is one of the type; no number is one of a string or a domain
abbrev pub InRange : DataType → ℤ → Type 0
InRange t value = IsSomeAnd (least_of t) (λ least. least ≤ℤ value) × IsSomeAnd (greatest_of t) (λ greatest. value ≤ℤ greatest)

-- What lines become: each kind of change, on both sides of each edge.
use Rattle.std.proofs.Common.{◌≡◌, ℕ, List, [], ◌∷◌, Some, None, true, false, refl, codes, map}
use Rattle.std.specs.Float.{float_is_finite}
use Rattle.std.specs.Float.Ieee.{to_bits}
use Rattle.fast_float.proofs.OnLiterals.{fast_float_on_literals}
use Rattle.co_text.specs.Printed.{digits_text}
use Rattle.co_sheet_text.specs.Text.{lines_of}
use Rattle.co_sheet_changes.specs.declared.change.ChangeKind.{ChangeKind}
use Rattle.co_sheet_changes.specs.declared.change.ChangeKind.TheVariants.{SectionName, ListKey, SubIndex0, DataType, RealLimit, RealValue, UnicodeValue, UnsignedLimit, SignExtended, OctetBlanks, EndMark}
use Rattle.co_sheet_adapt.specs.declared.left_out.LeftOut.TheVariants.{Real32, UnicodeString, TimeOfDay}
use Rattle.co_sheet_adapt.specs.LeftOut.{is_inconvertible, left_out_with, real32_bits, real64_bits, value_in_place}
use Rattle.co_sheet_adapt.specs.Values.{pairs_without_blanks}
use Rattle.co_sheet_adapt.specs.Named.{index_named, sub_named}
use Rattle.co_sheet_adapt.specs.Facts.{count_of}
use Rattle.co_sheet_changes.specs.Pieces.{Piece, kept, changed}
use Rattle.co_sheet_adapt.specs.Pieces.{is_padded, is_written_first, all_pieces}
use Rattle.co_sheet_changes.specs.Pieces.{assigned}
use Rattle.co_sheet_adapt.specs.Adapted.{comment_front, comment_end, comment_line, returns_first}

abbrev pieces : List ℕ → List Piece
pieces text = all_pieces (lines_of text)

abbrev change_at : ℕ → ChangeKind → List ℕ → List ℕ → Piece
change_at line why old new = changed (record { line = line; kind = why; old = old; new = new })

-- ---- the first line

comment : comment_line false (codes "conode 1 from a\nb") ≡ codes "; adapted by conode 1 from a?b: not for configuration tools\n"
unfolding comment_front comment_end
comment = refl

comment_with_return : comment_line true (codes "conode 1") ≡ codes "; adapted by conode 1: not for configuration tools\r\n"
unfolding comment_front comment_end
comment_with_return = refl

-- the first line's end
returns : map returns_first (codes "a=1\r\nb" ∷ codes "\r\n" ∷ codes "a\r\r\n" ∷ []) ≡ true ∷ true ∷ true ∷ []
returns = refl

feeds : map returns_first (codes "" ∷ codes "a=1\r" ∷ codes "a=1\nb\r\n" ∷ codes "\n" ∷ codes "a\rb\n" ∷ []) ≡ false ∷ false ∷ false ∷ false ∷ false ∷ []
feeds = refl

-- ---- object lists

list_key : pieces (codes "x\n[OptionalObjects]\nSupportedObjects=1\n01 = 0x1005\r\n")
    ≡ kept (codes "x") ∷ kept (codes "[OptionalObjects]") ∷ kept (codes "SupportedObjects=1")
    ∷ change_at 4 ListKey (codes "01 = 0x1005") (codes "1=0x1005\n") ∷ []
unfolding assigned
list_key = refl

not_of_a_list : pieces (codes "[Comments]\n01=a\n") ≡ kept (codes "[Comments]") ∷ kept (codes "01=a") ∷ []
not_of_a_list = refl

padded : is_padded (codes "0010") ≡ true
padded = refl

not_padded : is_padded (codes "10") ≡ false
not_padded = refl

zeros_alone : is_padded (codes "00") ≡ false
zeros_alone = refl

no_place : is_padded (codes "0x1") ≡ false
no_place = refl

-- ---- section lines

section_name : pieces (codes "[1018Sub 2]\n[My notes]\n")
    ≡ change_at 1 SectionName (codes "[1018Sub 2]") (codes "[1018Sub2]\n") ∷ kept (codes "[My notes]") ∷ []
section_name = refl

sub_index_0 : pieces (codes "[2000sub0]\nDefaultValue=2\n")
    ≡ change_at 1 SubIndex0 (codes "[2000sub0]") (codes "[2000sub0]\nDataType=0x0005\nAccessType=ro\n")
    ∷ kept (codes "DefaultValue=2") ∷ []
sub_index_0 = refl

sub_index_0_with_type : pieces (codes "[1A00sub0]\nDataType=5\n")
    ≡ change_at 1 SubIndex0 (codes "[1A00sub0]") (codes "[1A00sub0]\nAccessType=rw\n") ∷ kept (codes "DataType=5") ∷ []
sub_index_0_with_type = refl

sub_index_1 : pieces (codes "[2000sub1]\n") ≡ kept (codes "[2000sub1]") ∷ []
sub_index_1 = refl

written_first : map is_written_first (0x1002 ∷ 0x1003 ∷ 0x1004 ∷ 0x15FF ∷ 0x1600 ∷ 0x17FF ∷ 0x1800 ∷ 0x19FF ∷ 0x1A00 ∷ 0x1BFF ∷ 0x1C00 ∷ [])
    ≡ false ∷ true ∷ false ∷ false ∷ true ∷ true ∷ false ∷ false ∷ true ∷ true ∷ false ∷ []
written_first = refl

-- ---- compact forms

variable : pieces (codes "[2300]\nCompactSubObj=2\n") ≡ kept (codes "[2300]") ∷ kept (codes "CompactSubObj=2") ∷ []
variable = refl

counts : map count_of (0 ∷ 1 ∷ 254 ∷ 255 ∷ []) ≡ None ∷ Some 1 ∷ Some 254 ∷ None ∷ []
counts = refl

named : index_named (codes "Name") (codes "2300NAME") ≡ Some 0x2300
named = refl

named_otherwise : index_named (codes "Name") (codes "2300Value") ≡ None
named_otherwise = refl

named_without_index : index_named (codes "Name") (codes "Name") ≡ None
named_without_index = refl

subs : map sub_named (codes "10" ∷ codes "255" ∷ codes "256" ∷ codes "0x1" ∷ []) ≡ Some 10 ∷ Some 255 ∷ None ∷ None ∷ []
subs = refl

-- ---- types that are left out

real : pieces (codes "[2200]\nDataType=0x0008\nLowLimit=0.0\nDefaultValue=12.5\n")
    ≡ kept (codes "[2200]")
    ∷ change_at 2 DataType (codes "DataType=0x0008") (codes "DataType=0x0007\nOriginalDataType=0x0008\n")
    ∷ change_at 3 RealLimit (codes "LowLimit=0.0") []
    ∷ change_at 4 RealValue (codes "DefaultValue=12.5") (codes "DefaultValue=0x41480000\n") ∷ []
unfolding fast_float_on_literals float_is_finite to_bits assigned digits_text
real = refl

real64 : pieces (codes "[2201]\nDataType=0x11\nHighLimit=9\nParameterValue=-2\n")
    ≡ kept (codes "[2201]")
    ∷ change_at 2 DataType (codes "DataType=0x11") (codes "DataType=0x001B\nOriginalDataType=0x0011\n")
    ∷ change_at 3 RealLimit (codes "HighLimit=9") []
    ∷ change_at 4 RealValue (codes "ParameterValue=-2") (codes "ParameterValue=0xC000000000000000\n") ∷ []
unfolding fast_float_on_literals float_is_finite to_bits assigned digits_text
real64 = refl

unicode : pieces (codes "[2202]\nDataType=11\nDefaultValue=Az\n")
    ≡ kept (codes "[2202]")
    ∷ change_at 2 DataType (codes "DataType=11") (codes "DataType=0x000A\nOriginalDataType=0x000B\n")
    ∷ change_at 3 UnicodeValue (codes "DefaultValue=Az") (codes "DefaultValue=41007A00\n") ∷ []
unfolding assigned digits_text
unicode = refl

time_of_day : pieces (codes "[2203]\nDataType=0xC\nLowLimit=1\nDefaultValue=0x10\n")
    ≡ kept (codes "[2203]")
    ∷ change_at 2 DataType (codes "DataType=0xC") (codes "DataType=0x0019\nOriginalDataType=0x000C\n")
    ∷ kept (codes "LowLimit=1") ∷ kept (codes "DefaultValue=0x10") ∷ []
unfolding assigned digits_text
time_of_day = refl

time_difference : pieces (codes "[2204]\nDataType=0x0D\n")
    ≡ kept (codes "[2204]")
    ∷ change_at 2 DataType (codes "DataType=0x0D") (codes "DataType=0x0019\nOriginalDataType=0x000D\n") ∷ []
unfolding assigned digits_text
time_difference = refl

real_by_comma : pieces (codes "[2200]\nDataType=8\nDefaultValue=12,5\n") ≡ kept (codes "[2200]") ∷ kept (codes "DataType=8") ∷ kept (codes "DefaultValue=12,5") ∷ []
unfolding fast_float_on_literals float_is_finite to_bits
real_by_comma = refl

bits_of_real32 : real32_bits (codes "1.0e3") ≡ Some 0x447A0000
unfolding fast_float_on_literals float_is_finite to_bits
bits_of_real32 = refl

bits_of_real64 : real64_bits (codes "-2") ≡ Some 0xC000000000000000
unfolding fast_float_on_literals float_is_finite to_bits
bits_of_real64 = refl

hexadecimal_is_no_real : real32_bits (codes "0x10") ≡ None
unfolding fast_float_on_literals float_is_finite to_bits
hexadecimal_is_no_real = refl

infinite : real32_bits (codes "inf") ≡ None
unfolding fast_float_on_literals float_is_finite to_bits
infinite = refl

text : value_in_place UnicodeString (codes "Az") ≡ Some (codes "41007A00")
unfolding digits_text
text = refl

other_text : value_in_place UnicodeString (65 ∷ 0x80 ∷ []) ≡ None
other_text = refl

time : value_in_place TimeOfDay (codes "0x10") ≡ Some (codes "0x10")
time = refl

time_of_node : value_in_place TimeOfDay (codes "$NODEID") ≡ None
time_of_node = refl

kept_back : map (is_inconvertible 8) (codes "12,5" ∷ codes "12.5" ∷ codes "nan" ∷ codes "0x10" ∷ []) ≡ true ∷ false ∷ true ∷ true ∷ []
unfolding fast_float_on_literals float_is_finite to_bits
kept_back = refl

kept_back_time : map (λ code. is_inconvertible code (codes "$NODEID")) (0x0B ∷ 0x0C ∷ 0x0D ∷ 0x0E ∷ 7 ∷ []) ≡ false ∷ true ∷ true ∷ false ∷ false ∷ []
kept_back_time = refl

left_out : map left_out_with (7 ∷ 8 ∷ 9 ∷ 0x0C ∷ []) ≡ None ∷ Some Real32 ∷ None ∷ Some TimeOfDay ∷ []
left_out = refl

-- ---- values and limits at another type

signed : pieces (codes "[2005]\nDataType=4\nLowLimit=0x0\nHighLimit=0xFFFFFFFF\nDefaultValue=0xFFFFFFFFFFFFFFFF\n")
    ≡ kept (codes "[2005]") ∷ kept (codes "DataType=4")
    ∷ change_at 3 UnsignedLimit (codes "LowLimit=0x0") [] ∷ change_at 4 UnsignedLimit (codes "HighLimit=0xFFFFFFFF") []
    ∷ change_at 5 SignExtended (codes "DefaultValue=0xFFFFFFFFFFFFFFFF") (codes "DefaultValue=0xFFFFFFFF\n") ∷ []
unfolding assigned digits_text
signed = refl

-- HighLimit alone, which is the unsigned type's; it is dropped
unsigned_alone : pieces (codes "[2005]\nDataType=3\nHighLimit=65535\n")
    ≡ kept (codes "[2005]") ∷ kept (codes "DataType=3") ∷ change_at 3 UnsignedLimit (codes "HighLimit=65535") [] ∷ []
unsigned_alone = refl

-- a LowLimit that is no number isn't 0
unread_low : pieces (codes "[2005]\nDataType=3\nLowLimit=x\nHighLimit=65535\n")
    ≡ kept (codes "[2005]") ∷ kept (codes "DataType=3") ∷ kept (codes "LowLimit=x") ∷ kept (codes "HighLimit=65535") ∷ []
unread_low = refl

-- both limits with their signs extended
signed_limits : pieces (codes "[2005]\nDataType=3\nLowLimit=0xFFFF8000\nHighLimit=0xFFFFFFFF\n")
    ≡ kept (codes "[2005]") ∷ kept (codes "DataType=3")
    ∷ change_at 3 SignExtended (codes "LowLimit=0xFFFF8000") (codes "LowLimit=0x8000\n")
    ∷ change_at 4 SignExtended (codes "HighLimit=0xFFFFFFFF") (codes "HighLimit=0xFFFF\n") ∷ []
unfolding assigned digits_text
signed_limits = refl

-- not a HighLimit that would be below LowLimit, nor one alone
high_above_zero : pieces (codes "[2005]\nDataType=2\nLowLimit=0\nHighLimit=0xFFFFFFFF\n")
    ≡ kept (codes "[2005]") ∷ kept (codes "DataType=2") ∷ kept (codes "LowLimit=0") ∷ kept (codes "HighLimit=0xFFFFFFFF") ∷ []
high_above_zero = refl

high_alone : pieces (codes "[2005]\nDataType=3\nHighLimit=0xFFFFFFFF\n")
    ≡ kept (codes "[2005]") ∷ kept (codes "DataType=3") ∷ kept (codes "HighLimit=0xFFFFFFFF") ∷ []
high_alone = refl

-- a line of end marks alone, in a section
end_mark : all_pieces (record { number = 1; bytes = codes "[2005]" } ∷ record { number = 2; bytes = 26 ∷ 26 ∷ [] } ∷ record { number = 3; bytes = 59 ∷ 26 ∷ [] } ∷ [])
    ≡ kept (codes "[2005]") ∷ changed (record { line = 2; kind = EndMark; old = 26 ∷ 26 ∷ []; new = [] }) ∷ kept (59 ∷ 26 ∷ []) ∷ []
end_mark = refl

octets : pieces (codes "[2006]\nDataType=10\nLowLimit=0\nDefaultValue=00 A1\n")
    ≡ kept (codes "[2006]") ∷ kept (codes "DataType=10") ∷ kept (codes "LowLimit=0")
    ∷ change_at 4 OctetBlanks (codes "DefaultValue=00 A1") (codes "DefaultValue=00A1\n") ∷ []
unfolding assigned
octets = refl

pairs : pairs_without_blanks (codes "00 A1  ff") ≡ Some (codes "00A1ff")
pairs = refl

pairs_as_they_are : pairs_without_blanks (codes "00A1") ≡ None
pairs_as_they_are = refl

single_digits : pairs_without_blanks (codes "1 2") ≡ None
single_digits = refl

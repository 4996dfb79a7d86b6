-- Limits of the unsigned type, numbers with their sign extended, and end marks, on both sides of each
-- edge.
use Rattle.std.proofs.Common.{◌≡◌, ℕ, Bool, List, [], ◌∷◌, ◌++◌, Option, Some, None, true, false, refl, codes, map}
use Rattle.co_text.specs.Printed.{digits_text}
use Rattle.co_value.specs.declared.data_type.DataType.TheVariants.{Integer8, Integer16, Integer32, Integer64, Unsigned16}
use Rattle.co_sheet_text.specs.Text.{lines_of}
use Rattle.co_sheet_changes.specs.Groups.{Group, groups_of, is_end_text}
use Rattle.co_sheet_changes.specs.Limits.{has_unsigned_limits}
use Rattle.co_sheet_changes.specs.Extended.{has_extended_low, is_extended_limit, sign_extended}

-- ---- limits of the unsigned type

-- of the first section of a text
abbrev has : (Group → Bool) → List Group → Bool
has test [] = false
has test (g ∷ groups) = test g

-- with these lines the limits of a section are those of the unsigned type
abbrev whole : List ℕ → Bool
whole lines = has has_unsigned_limits (groups_of (lines_of (codes "[2000]\n" ++ lines)))

-- LowLimit is 0: the greatest number of each type, and those beside it
limits : map (λ high. whole (codes "DataType=4\nLowLimit=0x0\nHighLimit=" ++ high))
    (codes "0xFFFFFFFF" ∷ codes "4294967295" ∷ codes "0xFFFFFFFE" ∷ codes "0x100000000" ∷ codes "0x7FFFFFFF" ∷ codes "" ∷ [])
    ≡ true ∷ true ∷ false ∷ false ∷ false ∷ false ∷ []
limits = refl

low_limits : map (λ low. whole (codes "DataType=3\nHighLimit=0xFFFF\nDefaultValue=5\nLowLimit=" ++ low)) (codes "" ∷ codes "0" ∷ codes "1" ∷ codes "-1" ∷ codes "x" ∷ [])
    ≡ true ∷ true ∷ false ∷ false ∷ false ∷ []
low_limits = refl

-- no LowLimit: in decimal
least_type : map (λ high. whole (codes "DataType=2\nHighLimit=" ++ high)) (codes "255" ∷ codes "256" ∷ codes "127" ∷ [])
    ≡ true ∷ false ∷ false ∷ []
least_type = refl

greatest_type : map (λ high. whole (codes "DataType=21\nHighLimit=" ++ high)) (codes "18446744073709551615" ∷ codes "4294967295" ∷ [])
    ≡ true ∷ false ∷ []
greatest_type = refl

-- In two's complement it is -1, which is meant unless the entry begins with 0 or more.
beginnings : map (λ lines. whole (codes "DataType=3\nHighLimit=0xFFFF\n" ++ lines))
    (codes "" ∷ codes "DefaultValue=-5" ∷ codes "DefaultValue=0xFFFB" ∷ codes "DefaultValue=x" ∷ codes "DefaultValue=0" ∷ codes "DefaultValue=5"
    ∷ codes "DefaultValue=-5\nParameterValue=5" ∷ codes "DefaultValue=0x7FFF" ∷ [])
    ≡ false ∷ false ∷ false ∷ false ∷ true ∷ true ∷ true ∷ true ∷ []
beginnings = refl

in_decimal : map (λ lines. whole (codes "DataType=3\nHighLimit=65535\n" ++ lines)) (codes "" ∷ codes "DefaultValue=-5" ∷ []) ≡ true ∷ true ∷ []
in_decimal = refl

-- of an unsigned type, of none, and without a HighLimit
no_signed : map whole (codes "DataType=6\nLowLimit=0\nHighLimit=0xFFFF" ∷ codes "LowLimit=0\nHighLimit=0xFFFF" ∷ codes "DataType=3\nLowLimit=0" ∷ [])
    ≡ false ∷ false ∷ false ∷ []
no_signed = refl

-- ---- a sign that is extended

extended : sign_extended Integer16 (codes "0xFFFFFF9C") ≡ Some (codes "0xFF9C")
unfolding digits_text
extended = refl

least_extended : sign_extended Integer16 (codes "0xffff8000") ≡ Some (codes "0x8000")
unfolding digits_text
least_extended = refl

in_16_bits : sign_extended Integer8 (codes "0xFF80") ≡ Some (codes "0x80")
unfolding digits_text
in_16_bits = refl

in_64_bits : sign_extended Integer32 (codes "0xFFFFFFFFFFFFFFFE") ≡ Some (codes "0xFFFFFFFE")
unfolding digits_text
in_64_bits = refl

-- positive, in the type's own width, in decimal
not_extended : map (sign_extended Integer16) (codes "0xFFFF7FFF" ∷ codes "0xFF9C" ∷ codes "4294967196" ∷ codes "-1" ∷ codes "x" ∷ [])
    ≡ None ∷ None ∷ None ∷ None ∷ None ∷ []
not_extended = refl

in_24_bits : sign_extended Integer8 (codes "0xFFFF80") ≡ None
in_24_bits = refl

widest : sign_extended Integer64 (codes "0xFFFFFFFFFFFFFFFE") ≡ None
widest = refl

unsigned : sign_extended Unsigned16 (codes "0xFFFFFF9C") ≡ None
unsigned = refl

-- LowLimit has its sign extended: not in decimal, not in the bytes of its type, nor of an unsigned type
extended_low : map (λ text. has has_extended_low (groups_of (lines_of text)))
    (codes "[2000]\nDataType=3\nLowLimit=0xFFFF8000\n" ∷ codes "[2000]\nDataType=3\nLowLimit=-1\n" ∷ codes "[2000]\nDataType=3\nLowLimit=0x8000\n"
    ∷ codes "[2000]\nDataType=3\nLowLimit=-40000\n" ∷ codes "[2000]\nDataType=3\nHighLimit=0xFFFF8000\n" ∷ codes "[2000]\nDataType=6\nLowLimit=0xFFFF8000\n" ∷ [])
    ≡ true ∷ false ∷ false ∷ false ∷ false ∷ false ∷ []
extended_low = refl

-- LowLimit, and HighLimit beside a LowLimit without this, and beside one that has it
low : map (λ value. is_extended_limit false Integer16 (codes "LowLimit") value) (codes "0xFFFF8000" ∷ codes "0xFFFF7FFF" ∷ codes "0x8000" ∷ [])
    ≡ true ∷ false ∷ false ∷ []
low = refl

high : map (λ is. is_extended_limit is Integer16 (codes "highlimit") (codes "0xFFFFFFFF")) (false ∷ true ∷ []) ≡ false ∷ true ∷ []
high = refl

high_in_bytes : is_extended_limit true Integer16 (codes "HighLimit") (codes "0xFFFF") ≡ false
high_in_bytes = refl

no_limit : is_extended_limit true Integer16 (codes "DefaultValue") (codes "0xFFFF8000") ≡ false
no_limit = refl

-- ---- the end of a file of DOS

end_marks : map is_end_text ((26 ∷ []) ∷ (26 ∷ 26 ∷ 0 ∷ []) ∷ (0 ∷ []) ∷ [] ∷ (26 ∷ 59 ∷ []) ∷ (27 ∷ []) ∷ (1 ∷ []) ∷ codes "a" ∷ [])
    ≡ true ∷ true ∷ true ∷ false ∷ false ∷ false ∷ false ∷ false ∷ []
end_marks = refl

-- Numbers with a leading zero, and what is forced, evaluated.
use Rattle.std.proofs.Common.{◌≡◌, ℕ, List, [], ◌∷◌, Some, None, true, false, refl, codes, map}
use Rattle.std.specs.Fmt.{digits}
use Rattle.co_text.specs.Printed.{digits_text}
use Rattle.co_value.specs.declared.data_type.DataType.TheVariants.{Integer8, Unsigned8, VisibleString}
use Rattle.co_sheet_text.specs.Text.{lines_of}
use Rattle.co_sheet_changes.specs.declared.change.ChangeKind.{ChangeKind}
use Rattle.co_sheet_changes.specs.declared.change.ChangeKind.TheVariants.{LeadingZero, ForcedLimit, ForcedMapping, ForcedSync}
use Rattle.co_sheet_changes.specs.Pieces.{Piece, kept, changed, assigned}
use Rattle.co_sheet_changes.specs.declared.request.LeadingZeros.TheVariants.{Octal, Decimal}
use Rattle.co_sheet_changes.specs.Zeros.{value_anew}
use Rattle.co_sheet_changes.specs.ZeroNames.{is_number_code}
use Rattle.co_sheet_changes.specs.Forced.{is_forced_at, without_bit_30}
use Rattle.co_sheet_changes.specs.Requested.{Request, read_zeros, force_with, pieces_on, requested_text}

abbrev pieces : Request → List ℕ → List Piece
pieces request text = pieces_on request (lines_of text)

abbrev change_at : ℕ → ChangeKind → List ℕ → List ℕ → Piece
change_at line why old new = changed (record { line = line; kind = why; old = old; new = new })

-- ---- a leading zero

octal : map (value_anew Octal) (codes "010" ∷ codes "-010" ∷ codes "$NodeId + 0200" ∷ codes "010+$NODEID" ∷ [])
    ≡ Some (codes "8") ∷ Some (codes "-8") ∷ Some (codes "$NodeId+128") ∷ Some (codes "8+$NODEID") ∷ []
unfolding digits
octal = refl

by_ten : map (value_anew Decimal) (codes "010" ∷ codes "-010" ∷ codes "$NODEID+0200" ∷ codes "08" ∷ [])
    ≡ Some (codes "10") ∷ Some (codes "-10") ∷ Some (codes "$NODEID+200") ∷ Some (codes "8") ∷ []
unfolding digits
by_ten = refl

not_octal : map (value_anew Octal) (codes "08" ∷ codes "07" ∷ codes "10" ∷ codes "0x10" ∷ codes "0" ∷ codes "$NODEID" ∷ codes "x+010" ∷ [])
    ≡ None ∷ None ∷ None ∷ None ∷ None ∷ None ∷ None ∷ []
not_octal = refl

number_codes : map is_number_code (1 ∷ 7 ∷ 8 ∷ 9 ∷ 0x0A ∷ 0x0B ∷ 0x0C ∷ 0x0D ∷ 0x0F ∷ 0x1B ∷ [])
    ≡ true ∷ true ∷ false ∷ false ∷ false ∷ false ∷ true ∷ true ∷ false ∷ true ∷ []
number_codes = refl

-- a value of a number, not of a string; the type itself too
of_a_number : pieces (read_zeros Octal) (codes "[2000]\nDataType=012\nDefaultValue=010\n[2001]\nDataType=07\nLowLimit=010\nParameterName=010\n")
    ≡ kept (codes "[2000]") ∷ change_at 2 LeadingZero (codes "DataType=012") (codes "DataType=10\n") ∷ kept (codes "DefaultValue=010")
    ∷ kept (codes "[2001]") ∷ kept (codes "DataType=07")
    ∷ change_at 6 LeadingZero (codes "LowLimit=010") (codes "LowLimit=8\n") ∷ kept (codes "ParameterName=010") ∷ []
unfolding assigned digits
of_a_number = refl

of_a_list : pieces (read_zeros Decimal) (codes "[OptionalObjects]\nSupportedObjects=012\n01=04096\n[Comments]\n1=010\n")
    ≡ kept (codes "[OptionalObjects]") ∷ change_at 2 LeadingZero (codes "SupportedObjects=012") (codes "SupportedObjects=12\n")
    ∷ change_at 3 LeadingZero (codes "01=04096") (codes "01=4096\n") ∷ kept (codes "[Comments]") ∷ kept (codes "1=010") ∷ []
unfolding assigned digits
of_a_list = refl

of_sub_index_0 : pieces (read_zeros Octal) (codes "[2000sub0]\nDefaultValue=010\n[2000sub1]\nDefaultValue=010\n")
    ≡ kept (codes "[2000sub0]") ∷ change_at 2 LeadingZero (codes "DefaultValue=010") (codes "DefaultValue=8\n")
    ∷ kept (codes "[2000sub1]") ∷ kept (codes "DefaultValue=010") ∷ []
unfolding assigned digits
of_sub_index_0 = refl

-- ---- by force

limits : map (is_forced_at Unsigned8) (codes "255" ∷ codes "256" ∷ codes "0xFF" ∷ codes "-1" ∷ codes "1.5" ∷ codes "010" ∷ [])
    ≡ false ∷ true ∷ false ∷ true ∷ true ∷ false ∷ []
limits = refl

signed_limits : map (is_forced_at Integer8) (codes "-128" ∷ codes "-129" ∷ codes "0xFF" ∷ codes "0x100" ∷ [])
    ≡ false ∷ true ∷ false ∷ true ∷ []
signed_limits = refl

no_number : is_forced_at VisibleString (codes "x") ≡ false
no_number = refl

words : map without_bit_30 (0x40000080 ∷ 0xC0000080 ∷ 0x80 ∷ 0x80000080 ∷ 0x140000080 ∷ [])
    ≡ Some (codes "0x00000080") ∷ Some (codes "0x80000080") ∷ None ∷ None ∷ None ∷ []
unfolding digits_text
words = refl

forced_limit : pieces (force_with []) (codes "[2000]\nDataType=5\nLowLimit = 0\nHighLimit = 256\n")
    ≡ kept (codes "[2000]") ∷ kept (codes "DataType=5") ∷ kept (codes "LowLimit = 0")
    ∷ change_at 4 ForcedLimit (codes "HighLimit = 256") (codes ";HighLimit=256\n") ∷ []
unfolding assigned
forced_limit = refl

-- limits of the unsigned type have a rule of their own
unsigned_limits : pieces (force_with []) (codes "[2000]\nDataType=2\nLowLimit=0\nHighLimit=255\n")
    ≡ kept (codes "[2000]") ∷ kept (codes "DataType=2") ∷ kept (codes "LowLimit=0") ∷ kept (codes "HighLimit=255") ∷ []
unsigned_limits = refl

unsigned_alone : pieces (force_with []) (codes "[2000]\nDataType=2\nHighLimit=255\n")
    ≡ kept (codes "[2000]") ∷ kept (codes "DataType=2") ∷ kept (codes "HighLimit=255") ∷ []
unsigned_alone = refl

-- so have those with their sign extended, but for a HighLimit that would be below LowLimit
extended_limits : pieces (force_with []) (codes "[2000]\nDataType=3\nLowLimit=0xFFFF8000\nHighLimit=0xFFFFFFFF\n")
    ≡ kept (codes "[2000]") ∷ kept (codes "DataType=3") ∷ kept (codes "LowLimit=0xFFFF8000") ∷ kept (codes "HighLimit=0xFFFFFFFF") ∷ []
extended_limits = refl

extended_alone : pieces (force_with []) (codes "[2000]\nDataType=3\nLowLimit=0\nHighLimit=0xFFFFFFFF\n")
    ≡ kept (codes "[2000]") ∷ kept (codes "DataType=3") ∷ kept (codes "LowLimit=0")
    ∷ change_at 4 ForcedLimit (codes "HighLimit=0xFFFFFFFF") (codes ";HighLimit=0xFFFFFFFF\n") ∷ []
unfolding assigned
extended_alone = refl

forced_sync : pieces (force_with []) (codes "[1005]\nDefaultValue=0x40000080\n[1006]\nDefaultValue=0x40000080\n")
    ≡ kept (codes "[1005]") ∷ change_at 2 ForcedSync (codes "DefaultValue=0x40000080") (codes "DefaultValue=0x00000080\n")
    ∷ kept (codes "[1006]") ∷ kept (codes "DefaultValue=0x40000080") ∷ []
unfolding assigned digits_text
forced_sync = refl

-- of a mapping at fault the number alone
forced_mapping : pieces (force_with (0x1600 ∷ [])) (codes "[1600sub0]\nDefaultValue=8\nParameterValue=0\n[1600sub1]\nDefaultValue=8\n[1601sub0]\nDefaultValue=8\n")
    ≡ kept (codes "[1600sub0]") ∷ change_at 2 ForcedMapping (codes "DefaultValue=8") (codes "DefaultValue=0\n") ∷ kept (codes "ParameterValue=0")
    ∷ kept (codes "[1600sub1]") ∷ kept (codes "DefaultValue=8") ∷ kept (codes "[1601sub0]") ∷ kept (codes "DefaultValue=8") ∷ []
unfolding assigned
forced_mapping = refl

-- and a LowLimit that doesn't permit 0; not HighLimit, nor one of 0, nor of another entry
forced_low : pieces (force_with (0x1600 ∷ [])) (codes "[1600sub0]\nDataType=5\nLowLimit=1\nHighLimit=8\n[1600sub1]\nDataType=7\nLowLimit=1\n[1601sub0]\nDataType=5\nLowLimit=1\n")
    ≡ kept (codes "[1600sub0]") ∷ kept (codes "DataType=5") ∷ change_at 3 ForcedMapping (codes "LowLimit=1") (codes ";LowLimit=1\n") ∷ kept (codes "HighLimit=8")
    ∷ kept (codes "[1600sub1]") ∷ kept (codes "DataType=7") ∷ kept (codes "LowLimit=1")
    ∷ kept (codes "[1601sub0]") ∷ kept (codes "DataType=5") ∷ kept (codes "LowLimit=1") ∷ []
unfolding assigned
forced_low = refl

low_of_zero : pieces (force_with (0x1600 ∷ [])) (codes "[1600sub0]\nDataType=5\nLowLimit=0x0\n")
    ≡ kept (codes "[1600sub0]") ∷ kept (codes "DataType=5") ∷ kept (codes "LowLimit=0x0") ∷ []
low_of_zero = refl

-- ---- a text of which no line is changed stays as it is

unchanged : requested_text (Some (force_with [])) (codes "a\r\n[2000]\r\n") ≡ codes "a\r\n[2000]\r\n"
unchanged = refl

unasked : requested_text None (codes "[2000]\nDataType=010\n") ≡ codes "[2000]\nDataType=010\n"
unasked = refl

asked : requested_text (Some (read_zeros Decimal)) (codes "a\r\n[2000]\r\nDataType=010") ≡ codes "a\n[2000]\nDataType=10\n"
unfolding assigned digits
asked = refl

-- What becomes of an object in compact form: its line, and the sections that it gets.
use Rattle.std.proofs.Common.{◌≡◌, ℕ, List, [], ◌∷◌, ◌++◌, Some, None, true, false, refl, codes, map}
use Rattle.std.specs.Float.{float_is_finite}
use Rattle.std.specs.Float.Ieee.{to_bits}
use Rattle.std.specs.Fmt.{digits}
use Rattle.fast_float.proofs.OnLiterals.{fast_float_on_literals}
use Rattle.co_text.specs.Printed.{digits_text}
use Rattle.co_sheet_text.specs.Text.{lines_of}
use Rattle.co_sheet_changes.specs.declared.change.ChangeKind.{ChangeKind}
use Rattle.co_sheet_changes.specs.declared.change.ChangeKind.TheVariants.{CompactSubObj, DataType, RealLimit, RealValue, SectionName}
use Rattle.co_sheet_changes.specs.Pieces.{Piece, kept, changed, added_lines}
use Rattle.co_sheet_adapt.specs.Pieces.{all_pieces, is_zero}
use Rattle.co_sheet_changes.specs.Pieces.{assigned}
use Rattle.co_sheet_adapt.specs.Compact.{sub_head, written_as, name_line, value_line, type_line, sub_section, compact_first, count_at, first_keys, last_keys, first_section, is_count_written}

abbrev pieces : List ℕ → List Piece
pieces text = all_pieces (lines_of text)

abbrev change_at : ℕ → ChangeKind → List ℕ → List ℕ → Piece
change_at line why old new = changed (record { line = line; kind = why; old = old; new = new })

abbrev compact_at : ℕ → ℕ → ℕ → List ℕ → List ℕ → Piece
compact_at line index count old new = change_at line (CompactSubObj index count) old new

-- with a name for one sub-index, and a value for the other
array : pieces (codes "[2300]\nParameterName=Gain\nObjectType=8\nDataType=5\nAccessType=rw\nCompactSubObj=2\n[2300Name]\n2=Fast\n[2300Value]\n1=3\n")
    ≡ kept (codes "[2300]") ∷ kept (codes "ParameterName=Gain") ∷ kept (codes "ObjectType=8")
    ∷ kept (codes "DataType=5") ∷ kept (codes "AccessType=rw")
    ∷ compact_at 6 0x2300 2 (codes "CompactSubObj=2") (codes "CompactSubObj=0\n")
    ∷ added_lines 1 (codes "[2300sub0]\nParameterName=Number of entries\nObjectType=0x7\nDataType=0x0005\nAccessType=ro\nDefaultValue=2\nPDOMapping=0\n\n"
    ++ codes "[2300sub1]\nParameterName=Gain 1\nObjectType=0x7\nDataType=5\nAccessType=rw\nParameterValue=3\n\n"
    ++ codes "[2300sub2]\nParameterName=Fast\nObjectType=0x7\nDataType=5\nAccessType=rw\n\n")
    ∷ kept (codes "[2300Name]") ∷ kept (codes "2=Fast") ∷ kept (codes "[2300Value]") ∷ kept (codes "1=3") ∷ []
unfolding assigned digits digits_text sub_head written_as name_line value_line type_line sub_section compact_first first_keys last_keys first_section
array = refl

-- a RECORD too; the type that stands for a REAL32 is written in its section and in that of each sub-index, and a value that is no number isn't guessed
record_of_reals : pieces (codes "[2301]\nObjectType=9\nDataType=8\nHighLimit=2.0\nDefaultValue=1.5\nCompactSubObj=1\n[2301Value]\n1=1,5\n")
    ≡ kept (codes "[2301]") ∷ kept (codes "ObjectType=9")
    ∷ change_at 3 DataType (codes "DataType=8") (codes "DataType=0x0007\nOriginalDataType=0x0008\n")
    ∷ change_at 4 RealLimit (codes "HighLimit=2.0") [] ∷ change_at 5 RealValue (codes "DefaultValue=1.5") (codes "DefaultValue=0x3FC00000\n")
    ∷ compact_at 6 0x2301 1 (codes "CompactSubObj=1") (codes "CompactSubObj=0\n")
    ∷ added_lines 1 (codes "[2301sub0]\nParameterName=Number of entries\nObjectType=0x7\nDataType=0x0005\nAccessType=ro\nDefaultValue=1\nPDOMapping=0\n\n"
    ++ codes "[2301sub1]\nParameterName= 1\nObjectType=0x7\nDataType=0x0007\nOriginalDataType=0x0008\nDefaultValue=0x3FC00000\nParameterValue=?1,5\n\n")
    ∷ kept (codes "[2301Value]") ∷ kept (codes "1=1,5") ∷ []
unfolding fast_float_on_literals float_is_finite to_bits assigned digits digits_text sub_head written_as name_line value_line type_line sub_section compact_first first_keys last_keys first_section
record_of_reals = refl

-- 1003:00 counts no errors at first, and a client writes it
errors : pieces (codes "[1003]\nObjectType=8\nDataType=7\nAccessType=ro\nCompactSubObj=1\n")
    ≡ kept (codes "[1003]") ∷ kept (codes "ObjectType=8") ∷ kept (codes "DataType=7") ∷ kept (codes "AccessType=ro")
    ∷ compact_at 5 0x1003 1 (codes "CompactSubObj=1") (codes "CompactSubObj=0\n")
    ∷ added_lines 1 (codes "[1003sub0]\nParameterName=Number of entries\nObjectType=0x7\nDataType=0x0005\nAccessType=rw\nDefaultValue=0\nPDOMapping=0\n\n"
    ++ codes "[1003sub1]\nParameterName= 1\nObjectType=0x7\nDataType=7\nAccessType=ro\n\n") ∷ []
unfolding assigned digits digits_text sub_head written_as name_line value_line type_line sub_section compact_first first_keys last_keys first_section
errors = refl

-- a mapping that may be changed
mapping : pieces (codes "[1A00]\nObjectType=9\nDataType=7\nAccessType=RW\nCompactSubObj=1\n")
    ≡ kept (codes "[1A00]") ∷ kept (codes "ObjectType=9") ∷ kept (codes "DataType=7") ∷ kept (codes "AccessType=RW")
    ∷ compact_at 5 0x1A00 1 (codes "CompactSubObj=1") (codes "CompactSubObj=0\n")
    ∷ added_lines 1 (codes "[1A00sub0]\nParameterName=Number of entries\nObjectType=0x7\nDataType=0x0005\nAccessType=rw\nDefaultValue=1\nPDOMapping=0\n\n"
    ++ codes "[1A00sub1]\nParameterName= 1\nObjectType=0x7\nDataType=7\nAccessType=RW\n\n") ∷ []
unfolding assigned digits digits_text sub_head written_as name_line value_line type_line sub_section compact_first first_keys last_keys first_section
mapping = refl

-- the objects whose sub-index 0 is written, and the words by which a mapping is
written_at : map (λ index. is_count_written index (Some (codes "rw"))) (0x1002 ∷ 0x1003 ∷ 0x1004 ∷ 0x15FF ∷ 0x1600 ∷ 0x17FF ∷ 0x1800 ∷ 0x19FF ∷ 0x1A00 ∷ 0x1BFF ∷ 0x1C00 ∷ [])
    ≡ false ∷ true ∷ false ∷ false ∷ true ∷ true ∷ false ∷ false ∷ true ∷ true ∷ false ∷ []
written_at = refl

written_by : map (is_count_written 0x1600) (None ∷ Some (codes "ro") ∷ Some (codes "wo") ∷ Some (codes "rw") ∷ Some (codes "rwr") ∷ Some (codes "rww") ∷ Some (codes "const") ∷ [])
    ≡ false ∷ false ∷ false ∷ true ∷ true ∷ true ∷ false ∷ []
written_by = refl

errors_without_access : is_count_written 0x1003 None ≡ true
errors_without_access = refl

counted : map (λ index. count_at index 8) (0x1002 ∷ 0x1003 ∷ 0x1004 ∷ 0x1600 ∷ []) ≡ 8 ∷ 0 ∷ 8 ∷ 8 ∷ []
counted = refl

-- SubNumber counts no sub-index of a compact form: then it counts the sections; another number stays
sub_number : pieces (codes "[2303]\nObjectType=8\nDataType=5\nSubNumber=0x0\nCompactSubObj=1\n")
    ≡ kept (codes "[2303]") ∷ kept (codes "ObjectType=8") ∷ kept (codes "DataType=5")
    ∷ compact_at 4 0x2303 1 (codes "SubNumber=0x0") (codes "SubNumber=2\n")
    ∷ compact_at 5 0x2303 1 (codes "CompactSubObj=1") (codes "CompactSubObj=0\n")
    ∷ added_lines 1 (codes "[2303sub0]\nParameterName=Number of entries\nObjectType=0x7\nDataType=0x0005\nAccessType=ro\nDefaultValue=1\nPDOMapping=0\n\n"
    ++ codes "[2303sub1]\nParameterName= 1\nObjectType=0x7\nDataType=5\n\n") ∷ []
unfolding assigned digits digits_text sub_head written_as name_line value_line type_line sub_section compact_first first_keys last_keys first_section
sub_number = refl

sub_numbers : map is_zero (codes "0" ∷ codes "0x00" ∷ codes "1" ∷ codes "" ∷ codes "-0" ∷ []) ≡ true ∷ true ∷ false ∷ false ∷ false ∷ []
sub_numbers = refl

-- an object that isn't in compact form
no_sub_number : pieces (codes "[2303]\nObjectType=8\nSubNumber=0\n") ≡ kept (codes "[2303]") ∷ kept (codes "ObjectType=8") ∷ kept (codes "SubNumber=0") ∷ []
no_sub_number = refl

-- an object of another type has no compact form
other_object : pieces (codes "[2302]\nObjectType=0xA\nCompactSubObj=2\n")
    ≡ kept (codes "[2302]") ∷ kept (codes "ObjectType=0xA") ∷ kept (codes "CompactSubObj=2") ∷ []
other_object = refl

-- sub-indices that the sheet has stay as it has them, also with blanks in the name, and get no second section
own_sections : pieces (codes "[2300]\nObjectType=8\nDataType=5\nAccessType=rw\nCompactSubObj=2\n[2300 sub0]\nDataType=5\nAccessType=rw\n[2300sub2]\nDataType=6\n")
    ≡ kept (codes "[2300]") ∷ kept (codes "ObjectType=8") ∷ kept (codes "DataType=5") ∷ kept (codes "AccessType=rw")
    ∷ compact_at 5 0x2300 2 (codes "CompactSubObj=2") (codes "CompactSubObj=0\n")
    ∷ added_lines 1 (codes "[2300sub1]\nParameterName= 1\nObjectType=0x7\nDataType=5\nAccessType=rw\n\n")
    ∷ change_at 6 SectionName (codes "[2300 sub0]") (codes "[2300sub0]\n")
    ∷ kept (codes "DataType=5") ∷ kept (codes "AccessType=rw")
    ∷ kept (codes "[2300sub2]") ∷ kept (codes "DataType=6") ∷ []
unfolding assigned digits digits_text sub_head written_as name_line value_line type_line sub_section compact_first first_keys last_keys first_section
own_sections = refl

-- those of another object, and one past the count, are none of its own
other_sections : pieces (codes "[2300]\nObjectType=8\nDataType=5\nCompactSubObj=1\n[2301sub1]\n[2300sub2]\n")
    ≡ kept (codes "[2300]") ∷ kept (codes "ObjectType=8") ∷ kept (codes "DataType=5")
    ∷ compact_at 4 0x2300 1 (codes "CompactSubObj=1") (codes "CompactSubObj=0\n")
    ∷ added_lines 1 (codes "[2300sub0]\nParameterName=Number of entries\nObjectType=0x7\nDataType=0x0005\nAccessType=ro\nDefaultValue=1\nPDOMapping=0\n\n"
    ++ codes "[2300sub1]\nParameterName= 1\nObjectType=0x7\nDataType=5\n\n")
    ∷ kept (codes "[2301sub1]") ∷ kept (codes "[2300sub2]") ∷ []
unfolding assigned digits digits_text sub_head written_as name_line value_line type_line sub_section compact_first first_keys last_keys first_section
other_sections = refl

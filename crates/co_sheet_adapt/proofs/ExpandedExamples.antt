-- What a text is with the sections of its compact forms.
use Rattle.std.proofs.Common.{◌≡◌, ℕ, List, [], ◌∷◌, ◌++◌, Some, map, refl, codes}
use Rattle.std.specs.Prelude.{replicate}
use Rattle.co_sheet_text.specs.Text.{Line}
use Rattle.std.specs.Fmt.{digits}
use Rattle.co_text.specs.Printed.{digits_text}
use Rattle.co_sheet_changes.specs.Pieces.{assigned}
use Rattle.co_sheet_adapt.specs.Compact.{sub_head, written_as, name_line, value_line, type_line, sub_section, compact_first, first_keys, last_keys, first_section}
use Rattle.co_sheet_adapt.specs.CompactPdo.{communication_text, keys_of, object_head}
use Rattle.co_sheet_adapt.specs.Expanded.{as_read, expanded}

abbrev line : List ℕ → Line
line bytes = record { number = 1; bytes = bytes }

-- no compact form: the text as it is
no_form : expanded (codes "[2302]\nObjectType=8\nCompactSubObj=0") ≡ Some (codes "[2302]\nObjectType=8\nCompactSubObj=0")
unfolding expanded
no_form = refl

-- a key after a section line without `]`, and after one of more than 512 bytes, counts for no form
unclosed : expanded (codes "[2301]\nObjectType=8\n[2302\nCompactSubObj=2") ≡ Some (codes "[2301]\nObjectType=8\n[2302\nCompactSubObj=2")
unfolding expanded
unclosed = refl

read_lines : map as_read (line (codes " [2302 ") ∷ line (codes "[2302]") ∷ line (codes "[2302]" ++ replicate 507 32) ∷ line (codes "[2302]" ++ replicate 506 32) ∷ line (codes "a=1" ++ replicate 510 32) ∷ line (codes ";[2302") ∷ [])
    ≡ line (codes "[]") ∷ line (codes "[2302]") ∷ line (codes "[]") ∷ line (codes "[2302]" ++ replicate 506 32) ∷ line [] ∷ line (codes ";[2302") ∷ []
read_lines = refl

-- a REAL32 stays one, with its limits and its values; the last line is ended first
reals : expanded (codes "[2301]\nObjectType=8\nDataType=8\nHighLimit=2.0\nDefaultValue=1.5\nCompactSubObj=2\n[2301Name]\n2=Fast\n[2301Value]\n1=1,5")
    ≡ Some (codes "[2301]\nObjectType=8\nDataType=8\nHighLimit=2.0\nDefaultValue=1.5\nCompactSubObj=2\n[2301Name]\n2=Fast\n[2301Value]\n1=1,5\n"
    ++ codes "[2301sub0]\nParameterName=Number of entries\nObjectType=0x7\nDataType=0x0005\nAccessType=ro\nDefaultValue=2\nPDOMapping=0\n\n"
    ++ codes "[2301sub1]\nParameterName= 1\nObjectType=0x7\nDataType=8\nHighLimit=2.0\nDefaultValue=1.5\nParameterValue=1,5\n\n"
    ++ codes "[2301sub2]\nParameterName=Fast\nObjectType=0x7\nDataType=8\nHighLimit=2.0\nDefaultValue=1.5\n\n")
unfolding expanded assigned digits digits_text sub_head written_as name_line value_line type_line sub_section compact_first first_keys last_keys first_section
reals = refl

-- the objects of PDOs that have no section, and no places in the list
pdos : expanded (codes "[DeviceInfo]\nCompactPDO=3\nNrOfRXPDO=1\nNrOfTXPDO=0\n[OptionalObjects]\nSupportedObjects=0\n[1600]\n")
    ≡ Some (codes "[DeviceInfo]\nCompactPDO=3\nNrOfRXPDO=1\nNrOfTXPDO=0\n[OptionalObjects]\nSupportedObjects=0\n[1600]\n\n"
    ++ codes "[1400]\nParameterName=PDO communication parameter\nObjectType=0x9\n\n"
    ++ codes "[1400sub0]\nParameterName=Number of entries\nObjectType=0x7\nDataType=0x0005\nAccessType=ro\nDefaultValue=2\nPDOMapping=0\n\n"
    ++ codes "[1400sub1]\nParameterName=COB-ID\nDataType=0x0007\nAccessType=rw\nDefaultValue=0x80000000\n\n"
    ++ codes "[1400sub2]\nParameterName=Transmission type\nDataType=0x0005\nAccessType=rw\nDefaultValue=255\n\n")
unfolding expanded communication_text object_head keys_of first_section first_keys last_keys sub_head digits digits_text
pdos = refl

-- a section that is there already comes first, and so counts
own_section : expanded (codes "[2301]\nObjectType=8\nDataType=5\nCompactSubObj=1\n[2301sub1]\nDataType=6")
    ≡ Some (codes "[2301]\nObjectType=8\nDataType=5\nCompactSubObj=1\n[2301sub1]\nDataType=6\n"
    ++ codes "[2301sub0]\nParameterName=Number of entries\nObjectType=0x7\nDataType=0x0005\nAccessType=ro\nDefaultValue=1\nPDOMapping=0\n\n"
    ++ codes "[2301sub1]\nParameterName= 1\nObjectType=0x7\nDataType=5\n\n")
unfolding expanded assigned digits digits_text sub_head written_as name_line value_line type_line sub_section compact_first first_keys last_keys first_section
own_section = refl

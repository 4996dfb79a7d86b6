-- PDOs in compact form, evaluated.
use Rattle.std.proofs.Common.{◌≡◌, ℕ, List, [], ◌∷◌, ◌++◌, Option, Some, None, true, false, refl, codes, map}
use Rattle.std.specs.Prelude.{option_map}
use Rattle.std.specs.Fmt.{digits}
use Rattle.co_text.specs.Printed.{digits_text}
use Rattle.co_sheet_text.specs.Text.{lines_of}
use Rattle.co_sheet_changes.specs.declared.change.ChangeKind.TheVariants.{CompactPdo, ListCount}
use Rattle.co_sheet_changes.specs.Groups.{groups_of}
use Rattle.co_sheet_changes.specs.Pieces.{kept, changed, added_lines, assigned}
use Rattle.co_sheet_adapt.specs.Pieces.{all_pieces}
use Rattle.co_sheet_adapt.specs.Compact.{first_keys, first_section, last_keys, sub_head}
use Rattle.co_sheet_adapt.specs.CompactPdo.{PdoForm, communication_text, highest_of, is_counted, keys_of, list_change, object_head, pdo_form, subs_of}

abbrev form_of : List ℕ → Option PdoForm
form_of text = pdo_form (groups_of (lines_of text))

-- the objects that are there stay
some_there : form_of (codes "[DeviceInfo]\nCompactPDO=0x2F\nNrOfRXPDO=2\nNrOfTXPDO=1\n[OptionalObjects]\nSupportedObjects=4\n[1400]\n[1600]\n[1A00]\n")
    ≡ Some (record { subs = 0x17; listed = 4; absent = 0x1401 ∷ 0x1601 ∷ 0x1800 ∷ []; unlisted = 0x1401 ∷ 0x1601 ∷ 0x1800 ∷ [] })
some_there = refl

-- an object that a list names and no section describes gets sections, but no second place; a key that
-- the list doesn't count names nothing
listed_already : map form_of (codes "[DeviceInfo]\nCompactPDO=3\nNrOfRXPDO=0\nNrOfTXPDO=1\n[OptionalObjects]\nSupportedObjects=2\n1=0x1800\n02=6656\n"
    ∷ codes "[DeviceInfo]\nCompactPDO=3\nNrOfRXPDO=0\nNrOfTXPDO=1\n[OptionalObjects]\nSupportedObjects=0\n[ManufacturerObjects]\nSupportedObjects=1\n1=0x1A00\n2=0x1800\n" ∷ [])
    ≡ Some (record { subs = 3; listed = 2; absent = 0x1800 ∷ 0x1A00 ∷ []; unlisted = [] })
    ∷ Some (record { subs = 3; listed = 0; absent = 0x1800 ∷ 0x1A00 ∷ []; unlisted = 0x1800 ∷ [] }) ∷ []
listed_already = refl

-- keys on both sides of what a list counts
counted : map (is_counted 2) (codes "0" ∷ codes "1" ∷ codes "2" ∷ codes "02" ∷ codes "3" ∷ codes "x" ∷ codes "SupportedObjects" ∷ [])
    ≡ false ∷ true ∷ true ∷ true ∷ false ∷ false ∷ false ∷ []
counted = refl

-- keys that the list doesn't count are moved past the two objects that get a place
abbrev moved : List ℕ → Option (List ℕ)
moved name = option_map (λ m. m.new) (list_change (record { subs = 3; listed = 2; absent = 0x1800 ∷ 0x1A00 ∷ []; unlisted = 0x1800 ∷ 0x1A00 ∷ [] }) name (codes "0x1008"))

keys_moved : map moved (codes "2" ∷ codes "3" ∷ codes "007" ∷ codes "4294967295" ∷ codes "4294967296" ∷ codes "x" ∷ codes "SupportedObjects" ∷ [])
    ≡ None ∷ Some (codes "5=0x1008\n") ∷ Some (codes "9=0x1008\n") ∷ Some (codes "4294967297=0x1008\n") ∷ None ∷ None ∷ Some (codes "SupportedObjects=4\n") ∷ []
unfolding assigned digits
keys_moved = refl

-- without such an object no key is moved
none_moved : map (list_change (record { subs = 3; listed = 2; absent = 0x1800 ∷ []; unlisted = [] }) (codes "3")) (codes "0x1008" ∷ []) ≡ None ∷ []
none_moved = refl

without_form : map form_of (codes "[DeviceInfo]\nCompactPDO=0\nNrOfRXPDO=1\nNrOfTXPDO=1\n[OptionalObjects]\nSupportedObjects=0\n"
    ∷ codes "[DeviceInfo]\nCompactPDO=128\nNrOfRXPDO=1\nNrOfTXPDO=1\n[OptionalObjects]\nSupportedObjects=0\n"
    ∷ codes "[DeviceInfo]\nCompactPDO=3\nNrOfTXPDO=1\n[OptionalObjects]\nSupportedObjects=0\n"
    ∷ codes "[DeviceInfo]\nCompactPDO=3\nNrOfRXPDO=513\nNrOfTXPDO=1\n[OptionalObjects]\nSupportedObjects=0\n"
    ∷ codes "[DeviceInfo]\nCompactPDO=3\nNrOfRXPDO=1\nNrOfTXPDO=1\n" ∷ [])
    ≡ None ∷ None ∷ None ∷ None ∷ None ∷ []
without_form = refl

highest : map highest_of (3 ∷ 7 ∷ 15 ∷ 19 ∷ 31 ∷ 35 ∷ 63 ∷ []) ≡ 2 ∷ 3 ∷ 4 ∷ 5 ∷ 5 ∷ 6 ∷ 6 ∷ []
highest = refl

-- from sub-index 1: 1 and 2; with 3; with 5; with 3 and 5; with all of 3 to 6
from_1 : map subs_of (0x03 ∷ 0x07 ∷ 0x13 ∷ 0x17 ∷ 0x1F ∷ 0x3F ∷ []) ≡ Some 0x03 ∷ Some 0x07 ∷ Some 0x13 ∷ Some 0x17 ∷ Some 0x1F ∷ Some 0x3F ∷ []
from_1 = refl

-- from sub-index 0: 0 to 3; these and 5; 1 and 2; 0, 1, 2 and 6; all of 0 to 6
from_0 : map subs_of (0x0F ∷ 0x2F ∷ 0x06 ∷ 0x47 ∷ 0x7F ∷ []) ≡ Some 0x07 ∷ Some 0x17 ∷ Some 0x03 ∷ Some 0x23 ∷ Some 0x3F ∷ []
from_0 = refl

-- neither: no COB-ID, no transmission type, both with the reserved sub-index 4
neither : map subs_of (0x01 ∷ 0x02 ∷ 0x04 ∷ 0x05 ∷ 0x0B ∷ 0x40 ∷ []) ≡ None ∷ None ∷ None ∷ None ∷ None ∷ None ∷ []
neither = refl

-- the COB-ID, the transmission type and the event timer
communication : communication_text 0x13 0x1801
    ≡ codes "[1801]\nParameterName=PDO communication parameter\nObjectType=0x9\n\n"
    ++ codes "[1801sub0]\nParameterName=Number of entries\nObjectType=0x7\nDataType=0x0005\nAccessType=ro\nDefaultValue=5\nPDOMapping=0\n\n"
    ++ codes "[1801sub1]\nParameterName=COB-ID\nDataType=0x0007\nAccessType=rw\nDefaultValue=0x80000000\n\n"
    ++ codes "[1801sub2]\nParameterName=Transmission type\nDataType=0x0005\nAccessType=rw\nDefaultValue=255\n\n"
    ++ codes "[1801sub5]\nParameterName=Event timer\nDataType=0x0006\nAccessType=rw\nDefaultValue=0\n\n"
unfolding communication_text object_head keys_of first_section first_keys last_keys sub_head digits digits_text
communication = refl

-- nothing is missing: the form alone goes
nothing_missing : all_pieces (lines_of (codes "[DeviceInfo]\nCompactPDO=3\nNrOfRXPDO=0\nNrOfTXPDO=0\n[OptionalObjects]\nSupportedObjects=0\n"))
    ≡ kept (codes "[DeviceInfo]") ∷ changed (record { line = 2; kind = CompactPdo 0 3; old = codes "CompactPDO=3"; new = codes "CompactPDO=0\n" })
    ∷ kept (codes "NrOfRXPDO=0") ∷ kept (codes "NrOfTXPDO=0") ∷ kept (codes "[OptionalObjects]") ∷ kept (codes "SupportedObjects=0") ∷ []
unfolding assigned
nothing_missing = refl

-- two objects, with their places in the list
two_objects : all_pieces (lines_of (codes "[DeviceInfo]\nCompactPDO=3\nNrOfRXPDO=1\nNrOfTXPDO=0\n[OptionalObjects]\nSupportedObjects=1\n1=0x1600\n[1600]\n"))
    ≡ kept (codes "[DeviceInfo]") ∷ changed (record { line = 2; kind = CompactPdo 1 3; old = codes "CompactPDO=3"; new = codes "CompactPDO=0\n" })
    ∷ kept (codes "NrOfRXPDO=1") ∷ kept (codes "NrOfTXPDO=0")
    ∷ added_lines 1 (codes "[1400]\nParameterName=PDO communication parameter\nObjectType=0x9\n\n"
    ++ codes "[1400sub0]\nParameterName=Number of entries\nObjectType=0x7\nDataType=0x0005\nAccessType=ro\nDefaultValue=2\nPDOMapping=0\n\n"
    ++ codes "[1400sub1]\nParameterName=COB-ID\nDataType=0x0007\nAccessType=rw\nDefaultValue=0x80000000\n\n"
    ++ codes "[1400sub2]\nParameterName=Transmission type\nDataType=0x0005\nAccessType=rw\nDefaultValue=255\n\n")
    ∷ kept (codes "[OptionalObjects]")
    ∷ changed (record { line = 6; kind = ListCount; old = codes "SupportedObjects=1"; new = codes "SupportedObjects=2\n" })
    ∷ kept (codes "1=0x1600") ∷ added_lines 5 (codes "2=0x1400\n") ∷ kept (codes "[1600]") ∷ []
unfolding assigned communication_text object_head keys_of first_section first_keys last_keys sub_head digits digits_text
two_objects = refl

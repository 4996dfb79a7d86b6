-- Device configuration files, computed from the definitions: the node-ID, and ParameterValue beside DefaultValue.
use Rattle.std.proofs.Common.{◌≡◌, ◌++◌, List, ℕ, [], ◌∷◌, refl, codes, Some, None, Option}
use Rattle.std.specs.Prelude.{pos, neg_ℤ, slice_get, option_map}
use Rattle.co_sheet_rows.specs.declared.fault.FaultKind.TheVariants.{BadLine, DuplicateSection, DuplicateKey, MissingSection, BadNumber, AmbiguousNumber, BadLimits, BadDefault}
use Rattle.co_sheet_rows.specs.declared.note.Note.{Note}
use Rattle.co_sheet_rows.specs.declared.note.NoteKind.TheVariants.{SubNumber, Unlisted, NodeId}
use Rattle.co_sheet.specs.Faults.{fault_at}
use Rattle.co_sheet.specs.Notes.{notes_of, note_at}
use Rattle.co_sheet.specs.Commissioning.{node_id_in}
use Rattle.co_sheet.specs.Limits.{Default, absent, number, node_id, text, pairs}
use Rattle.co_sheet.specs.Accepted.{sections_in}
use Rattle.co_sheet.specs.Content.{rows_of}
use Rattle.co_sheet.proofs.Examples.{joined, small, fault_of, replaced, with_lines}

-- the text of lines is a data sheet, with this node-ID and these notes
abbrev HasNodeId : List (List ℕ) → Option ℕ → List Note → Type 0
HasNodeId lines id notes =
    (fault_of lines ≡ None) × (node_id_in (sections_in (joined lines)) ≡ id) × (notes_of (sections_in (joined lines)) ≡ notes)

-- and the row of a place has this default
abbrev HasDefault : ℕ → List (List ℕ) → Default → Type 0
HasDefault place lines default = (fault_of lines ≡ None) × (option_map (λ r. r.default) (slice_get (rows_of (joined lines)) place) ≡ Some default)

-- the small sheet with a device commissioning
abbrev commissioned : List ℕ → List (List ℕ)
commissioned id = small ++ (codes "[DeviceComissioning]" ∷ (codes "NodeID=" ++ id) ∷ [])

-- the small sheet with lines at the end of its last section, that of 1018:01, an UNSIGNED32
abbrev at_1018_01 : List (List ℕ) → List (List ℕ)
at_1018_01 lines = small ++ lines

-- the small sheet with one more object, 2000h, and lines in its section: the first of them is line 26
abbrev at_2000 : List (List ℕ) → List (List ℕ)
at_2000 lines = small ++ (codes "[ManufacturerObjects]" ∷ codes "SupportedObjects=1" ∷ codes "1=0x2000" ∷ codes "[2000]" ∷ []) ++ lines

-- ---- the node-ID

no_node_id : HasNodeId small None []
no_node_id = (refl, refl, refl)

node_id_0 : HasNodeId (commissioned (codes "0")) None (note_at 23 NodeId ∷ [])
node_id_0 = (refl, refl, refl)

node_id_1 : HasNodeId (commissioned (codes "1")) (Some 1) []
node_id_1 = (refl, refl, refl)

node_id_127 : HasNodeId (commissioned (codes "0x7F")) (Some 127) []
node_id_127 = (refl, refl, refl)

node_id_128 : HasNodeId (commissioned (codes "128")) None (note_at 23 NodeId ∷ [])
node_id_128 = (refl, refl, refl)

node_id_greatest : HasNodeId (commissioned (codes "18446744073709551615")) None (note_at 23 NodeId ∷ [])
node_id_greatest = (refl, refl, refl)

-- an empty value is no key
node_id_empty : HasNodeId (commissioned (codes " \t")) None []
node_id_empty = (refl, refl, refl)

-- what is no number is a fault
node_id_itself : fault_of (commissioned (codes "$NODEID")) ≡ Some (fault_at 23 BadNumber)
node_id_itself = refl

node_id_negative : fault_of (commissioned (codes "-5")) ≡ Some (fault_at 23 BadNumber)
node_id_negative = refl

node_id_too_great : fault_of (commissioned (codes "18446744073709551616")) ≡ Some (fault_at 23 BadNumber)
node_id_too_great = refl

node_id_ambiguous : fault_of (commissioned (codes "010")) ≡ Some (fault_at 23 AmbiguousNumber)
node_id_ambiguous = refl

node_id_twice : fault_of (commissioned (codes "5") ++ (codes "nodeid=5" ∷ [])) ≡ Some (fault_at 24 DuplicateKey)
node_id_twice = refl

-- the section is read: a line without `=` is a fault there
commissioning_is_read : fault_of (small ++ (codes "[DeviceCommissioning]" ∷ codes "x" ∷ [])) ≡ Some (fault_at 23 BadLine)
commissioning_is_read = refl

-- its other keys, and the references to files, are passed over
other_keys : HasNodeId (small ++ (codes "[DeviceCommissioning]" ∷ codes "NodeName=a" ∷ codes "NodeName=b" ∷ codes "Baudrate=x" ∷ codes "CANopenManager=x" ∷ codes "NodeID=7" ∷ codes "[FileInfo]" ∷ codes "LastEDS=a.eds" ∷ codes "NodeID=x" ∷ [])) (Some 7) []
other_keys = (refl, refl, refl)

node_id_in_other_section : HasNodeId (with_lines 21 (codes "[DeviceInfo]" ∷ codes "NodeID=x" ∷ [])) None []
node_id_in_other_section = (refl, refl, refl)

-- both spellings name one section, which may be anywhere
first_of_all : HasNodeId ((codes "[devicecommissioning]" ∷ codes "NODEID=5" ∷ []) ++ small) (Some 5) []
first_of_all = (refl, refl, refl)

spelled_otherwise_again : fault_of (commissioned (codes "5") ++ (codes "[DeviceCommissioning]" ∷ [])) ≡ Some (fault_at 24 DuplicateSection)
spelled_otherwise_again = refl

spelled_otherwise_before : fault_of ((codes "[DeviceCommissioning]" ∷ []) ++ commissioned (codes "5")) ≡ Some (fault_at 23 DuplicateSection)
spelled_otherwise_before = refl

spelled_so_again : fault_of (commissioned (codes "5") ++ (codes "[DeviceComissioning]" ∷ [])) ≡ Some (fault_at 24 DuplicateSection)
spelled_so_again = refl

spelled_the_other_way_again : fault_of (small ++ (codes "[DeviceCommissioning]" ∷ codes "[DeviceCommissioning]" ∷ [])) ≡ Some (fault_at 23 DuplicateSection)
spelled_the_other_way_again = refl

-- its number belongs to check 2: after a missing MandatoryObjects, before a bad list, and the smallest line of all
number_before_bad_list : fault_of (replaced 2 (codes "SupportedObjects=9") ++ (codes "[DeviceComissioning]" ∷ codes "NodeID=x" ∷ [])) ≡ Some (fault_at 23 BadNumber)
number_before_bad_list = refl

number_after_missing_lists : fault_of (codes "[DeviceComissioning]" ∷ codes "NodeID=x" ∷ []) ≡ Some (fault_at 0 MissingSection)
number_after_missing_lists = refl

number_before_dummy : fault_of (commissioned (codes "x") ++ (codes "[DummyUsage]" ∷ codes "Dummy0002=08" ∷ [])) ≡ Some (fault_at 23 BadNumber)
number_before_dummy = refl

number_after_dummy : fault_of (small ++ (codes "[DummyUsage]" ∷ codes "Dummy0002=08" ∷ codes "[DeviceComissioning]" ∷ codes "NodeID=x" ∷ [])) ≡ Some (fault_at 23 AmbiguousNumber)
number_after_dummy = refl

-- notes stand in the order of their lines
notes_in_order : HasNodeId (with_lines 14 (codes "SubNumber=9" ∷ []) ++ (codes "[DeviceComissioning]" ∷ codes "NodeID=0" ∷ codes "[2001]" ∷ [])) None (note_at 15 SubNumber ∷ note_at 24 NodeId ∷ note_at 25 Unlisted ∷ [])
notes_in_order = (refl, refl, refl)

-- ---- ParameterValue

-- it counts in place of DefaultValue, in either order, and alone
value_alone : HasDefault 3 (at_1018_01 (codes "ParameterValue=0x99" ∷ [])) (number (pos 0x99))
value_alone = (refl, refl)

value_after_default : HasDefault 3 (at_1018_01 (codes "DefaultValue=1" ∷ codes "ParameterValue=2" ∷ [])) (number (pos 2))
value_after_default = (refl, refl)

value_before_default : HasDefault 3 (at_1018_01 (codes "parametervalue=2" ∷ codes "DefaultValue=1" ∷ [])) (number (pos 2))
value_before_default = (refl, refl)

-- without a value it is absent
value_empty : HasDefault 3 (at_1018_01 (codes "ParameterValue=" ∷ codes "DefaultValue=1" ∷ [])) (number (pos 1))
value_empty = (refl, refl)

-- in an object's section too, with a note of the node-ID elsewhere
value_of_object : HasDefault 0 (with_lines 9 (codes "ParameterValue=0x192" ∷ [])) (number (pos 0x192))
value_of_object = (refl, refl)

-- every form of a default
value_of_signed : HasDefault 4 (at_2000 (codes "DataType=3" ∷ codes "AccessType=rw" ∷ codes "ParameterValue=0xFFFE" ∷ [])) (number (neg_ℤ (pos 2)))
value_of_signed = (refl, refl)

value_negative : HasDefault 4 (at_2000 (codes "DataType=3" ∷ codes "AccessType=rw" ∷ codes "ParameterValue=-2" ∷ [])) (number (neg_ℤ (pos 2)))
value_negative = (refl, refl)

value_node_id : HasDefault 3 (at_1018_01 (codes "ParameterValue=$nodeid" ∷ [])) (node_id 0)
value_node_id = (refl, refl)

value_sum : HasDefault 3 (at_1018_01 (codes "ParameterValue=0x180 + $NODEID" ∷ codes "DefaultValue=1" ∷ [])) (node_id 0x180)
value_sum = (refl, refl)

value_beside_sum : HasDefault 3 (at_1018_01 (codes "DefaultValue=$NODEID+0x180" ∷ codes "ParameterValue=7" ∷ [])) (number (pos 7))
value_beside_sum = (refl, refl)

value_of_string : HasDefault 4 (at_2000 (codes "DataType=9" ∷ codes "AccessType=ro" ∷ codes "DefaultValue=a" ∷ codes "ParameterValue= b ; c " ∷ [])) (text (codes "b ; c"))
value_of_string = (refl, refl)

value_of_octets : HasDefault 4 (at_2000 (codes "DataType=0xA" ∷ codes "AccessType=rw" ∷ codes "ParameterValue=0aFF" ∷ codes "DefaultValue=00" ∷ [])) (pairs (codes "0aFF"))
value_of_octets = (refl, refl)

value_of_domain : HasDefault 4 (at_2000 (codes "ObjectType=2" ∷ codes "ParameterValue=x" ∷ [])) absent
value_of_domain = (refl, refl)

-- an ARRAY's or RECORD's own is not looked at, nor that of an object that no list names
value_of_record : fault_of (with_lines 14 (codes "ParameterValue=x" ∷ [])) ≡ None
value_of_record = refl

value_unlisted : fault_of (small ++ (codes "[2001]" ∷ codes "DataType=7" ∷ codes "ParameterValue=x" ∷ [])) ≡ None
value_unlisted = refl

value_twice : fault_of (at_1018_01 (codes "ParameterValue=1" ∷ codes "PARAMETERVALUE=2" ∷ [])) ≡ Some (fault_at 23 DuplicateKey)
value_twice = refl

-- ---- what is checked of both

value_unread : fault_of (at_1018_01 (codes "ParameterValue=x" ∷ [])) ≡ Some (fault_at 22 BadNumber)
value_unread = refl

value_ambiguous : fault_of (at_1018_01 (codes "ParameterValue=$NODEID+010" ∷ [])) ≡ Some (fault_at 22 AmbiguousNumber)
value_ambiguous = refl

-- the default beside it is still read
default_unread : fault_of (at_1018_01 (codes "ParameterValue=1" ∷ codes "DefaultValue=x" ∷ [])) ≡ Some (fault_at 23 BadNumber)
default_unread = refl

-- of several lines the smallest
value_unread_first : fault_of (at_1018_01 (codes "ParameterValue=x" ∷ codes "DefaultValue=010" ∷ [])) ≡ Some (fault_at 22 BadNumber)
value_unread_first = refl

default_unread_first : fault_of (at_1018_01 (codes "DefaultValue=010" ∷ codes "ParameterValue=x" ∷ [])) ≡ Some (fault_at 22 AmbiguousNumber)
default_unread_first = refl

limit_unread_first : fault_of (at_1018_01 (codes "HighLimit=010" ∷ codes "ParameterValue=x" ∷ [])) ≡ Some (fault_at 22 AmbiguousNumber)
limit_unread_first = refl

value_unread_before_limit : fault_of (at_1018_01 (codes "ParameterValue=x" ∷ codes "HighLimit=010" ∷ [])) ≡ Some (fault_at 22 BadNumber)
value_unread_before_limit = refl

-- outside the type, and the limits, on each side of the edge
value_at_end_of_type : HasDefault 3 (at_1018_01 (codes "ParameterValue=0xFFFFFFFF" ∷ [])) (number (pos 0xFFFFFFFF))
value_at_end_of_type = (refl, refl)

value_outside_type : fault_of (at_1018_01 (codes "ParameterValue=0x100000000" ∷ [])) ≡ Some (fault_at 22 BadDefault)
value_outside_type = refl

value_at_limit : HasDefault 3 (at_1018_01 (codes "ParameterValue=10" ∷ codes "HighLimit=10" ∷ [])) (number (pos 10))
value_at_limit = (refl, refl)

value_above_limit : fault_of (at_1018_01 (codes "HighLimit=10" ∷ codes "DefaultValue=10" ∷ codes "ParameterValue=11" ∷ [])) ≡ Some (fault_at 24 BadDefault)
value_above_limit = refl

value_below_limit : fault_of (at_1018_01 (codes "ParameterValue=1" ∷ codes "LowLimit=2" ∷ [])) ≡ Some (fault_at 22 BadDefault)
value_below_limit = refl

default_above_limit : fault_of (at_1018_01 (codes "HighLimit=10" ∷ codes "DefaultValue=11" ∷ codes "ParameterValue=10" ∷ [])) ≡ Some (fault_at 23 BadDefault)
default_above_limit = refl

both_above_limit : fault_of (at_1018_01 (codes "HighLimit=10" ∷ codes "DefaultValue=11" ∷ codes "ParameterValue=12" ∷ [])) ≡ Some (fault_at 23 BadDefault)
both_above_limit = refl

both_above_limit_otherwise : fault_of (at_1018_01 (codes "ParameterValue=12" ∷ codes "DefaultValue=11" ∷ codes "HighLimit=10" ∷ [])) ≡ Some (fault_at 22 BadDefault)
both_above_limit_otherwise = refl

-- a sum with the node-ID isn't looked at in the sheet
sum_above_limit : HasDefault 3 (at_1018_01 (codes "HighLimit=10" ∷ codes "ParameterValue=$NODEID+999" ∷ [])) (node_id 999)
sum_above_limit = (refl, refl)

default_beside_sum : fault_of (at_1018_01 (codes "HighLimit=10" ∷ codes "ParameterValue=$NODEID+999" ∷ codes "DefaultValue=11" ∷ [])) ≡ Some (fault_at 24 BadDefault)
default_beside_sum = refl

octets_odd : fault_of (at_2000 (codes "DataType=0xA" ∷ codes "AccessType=rw" ∷ codes "DefaultValue=00" ∷ codes "ParameterValue=0aF" ∷ [])) ≡ Some (fault_at 29 BadDefault)
octets_odd = refl

octets_odd_default : fault_of (at_2000 (codes "DataType=0xA" ∷ codes "AccessType=rw" ∷ codes "DefaultValue=0aF" ∷ codes "ParameterValue=00" ∷ [])) ≡ Some (fault_at 28 BadDefault)
octets_odd_default = refl

-- reading comes before limits, and these before defaults
order_15_16 : fault_of (at_1018_01 (codes "LowLimit=2" ∷ codes "HighLimit=1" ∷ codes "ParameterValue=x" ∷ [])) ≡ Some (fault_at 24 BadNumber)
order_15_16 = refl

order_16_17 : fault_of (at_1018_01 (codes "ParameterValue=-1" ∷ codes "LowLimit=2" ∷ codes "HighLimit=1" ∷ [])) ≡ Some (fault_at 24 BadLimits)
order_16_17 = refl

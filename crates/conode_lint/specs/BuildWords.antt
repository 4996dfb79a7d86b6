-- The words about a build fault, for people.
use Rattle.std.specs.Prelude.{List, [], ℕ, ◌==◌, Bool, if◌then◌else◌, codes}
use Rattle.co_value.specs.declared.key.Key.{Key}
use Rattle.co_dict_build.specs.BuildFaultTexts.{fault_number}
use Rattle.co_dict_build.specs.declared.build_fault.BuildFault.{BuildFault}
use Rattle.co_dict_build.specs.declared.build_fault.BuildFault.TheVariants.{NodeId, ValueRange, BadCobId, PdoPair, BadMapping, TooMany, Memory}
use Rattle.co_sheet_text.specs.Sections.{TextSection}
use Rattle.conode_lint_text.specs.Sums.{value_range}
use Rattle.conode_lint_text.specs.declared.finding.About.{About}
use Rattle.conode_lint_text.specs.declared.finding.About.TheVariants.{Line, Object, Entry}
use Rattle.conode_lint_text.specs.declared.finding.Place.{Place}
use Rattle.conode_lint_text.specs.declared.finding.Place.TheVariants.{Beginning, Value}

-- the COB-ID of SYNC, whose bit 30 is a limit of what is built here and no fault of the sheet
abbrev pub is_sync : Key → Bool
is_sync key = key.index == 0x1005

-- the object or the entry that it is about, at a line with this text among these sections; of a sum the
-- node-IDs for which it is right
abbrev pub build_about : List TextSection → ℕ → List ℕ → BuildFault → About
build_about sections line text NodeId = Line
build_about sections line text (ValueRange key) = value_range key line sections text
build_about sections line text (BadCobId key) = Entry key.index key.sub
build_about sections line text (PdoPair index) = Object index
build_about sections line text (BadMapping key) = Entry key.index key.sub
build_about sections line text TooMany = Line
build_about sections line text Memory = Line

-- which part of its line: the value of an entry
abbrev pub build_place : BuildFault → Place
build_place (ValueRange key) = Value
build_place (BadCobId key) = Value
build_place (BadMapping key) = Value
build_place other = Beginning

-- what is wrong
abbrev pub build_meaning : BuildFault → List ℕ
build_meaning NodeId = codes "the node-ID is none of 1 to 127"
build_meaning (ValueRange key) =
    codes "the default with $NODEID is outside the type or the limits for this node-ID"
build_meaning (BadCobId key) =
    if is_sync key
    then codes "the COB-ID is reserved, belongs to an SDO channel or has wrong bits, or bit 30 is set"
    else codes "the COB-ID is reserved, belongs to an SDO channel or has wrong bits"
build_meaning (PdoPair index) =
    codes "the PDO lacks its other object, or a sub-index that it needs"
build_meaning (BadMapping key) =
    codes "it counts an entry that is missing or can't be mapped, a wrong length, or over 64 bits"
build_meaning TooMany = codes "over 16,384 entries, or over 16,777,216 bytes of room"
build_meaning Memory = codes "memory ran out"

-- how to fix it
abbrev pub build_fix : BuildFault → List ℕ
build_fix NodeId = codes "give a node-ID from 1 to 127"
build_fix (ValueRange key) = codes "correct the default or the limits"
build_fix (BadCobId key) =
    if is_sync key
    then codes "give a free COB-ID of 11 bits; bit 30 is legal, but conode's node sends no SYNC: clear it, or let conode adapt --force clear it"
    else codes "give a free COB-ID of 11 bits; if bit 29 is set, clear it: it is legal, but conode's node has no 29-bit identifiers"
build_fix (PdoPair index) = codes "list or describe what is missing"
build_fix (BadMapping key) = codes "correct the mapping, or set PDOMapping=1 for the entry"
build_fix TooMany = codes "take objects out of the lists, or lower --domains or --strings"
build_fix Memory = codes "run it again with more memory"

-- the subject of the standard
abbrev pub build_subject : BuildFault → List ℕ
build_subject NodeId = codes "CiA 301, node-ID"
build_subject (ValueRange key) = codes "CiA 306-1, object description"
build_subject (BadCobId key) = codes "CiA 301, restricted CAN-IDs"
build_subject (PdoPair index) = codes "CiA 301, PDO communication and mapping parameter"
build_subject (BadMapping key) = codes "CiA 301, PDO mapping parameter"
build_subject TooMany = []
build_subject Memory = []

-- the row of a fault's words: its number, or the last one for SYNC
abbrev pub row_of : BuildFault → ℕ
row_of (BadCobId key) = if is_sync key then 8 else 3
row_of fault = fault_number fault

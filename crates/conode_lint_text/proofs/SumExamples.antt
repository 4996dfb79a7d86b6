-- The node-IDs for which a sum with `$NODEID` is right, on both sides of each edge.
use Rattle.std.proofs.Common.{◌≡◌, ℕ, List, [], ◌∷◌, refl, codes, map}
use Rattle.std.specs.Prelude.{pos, negsuc}
use Rattle.std.specs.Fmt.{digits}
use Rattle.co_text.specs.Printed.{digits_text}
use Rattle.co_value.specs.declared.data_type.DataType.TheVariants.{Boolean, Integer8, Unsigned8, Unsigned16}
use Rattle.co_sheet_text.specs.declared.section_kind.SectionKind.TheVariants.{Object, SubIndex}
use Rattle.co_sheet_text.specs.Sections.{Property, TextSection}
use Rattle.conode_text.specs.Filled.{filled}
use Rattle.conode_lint_text.specs.declared.finding.About.{About}
use Rattle.conode_lint_text.specs.declared.finding.About.TheVariants.{Entry, Sum, NoSum}
use Rattle.conode_lint_text.specs.Findings.{about_message}
use Rattle.conode_lint_text.specs.Sums.{first_from, first_node, last_node, last_to, value_range}

-- up to a number: more than 127 node-IDs, each of them, fewer, one, none
to : map (last_to 100) (pos 228 ∷ pos 227 ∷ pos 226 ∷ pos 101 ∷ pos 100 ∷ pos 0 ∷ negsuc 0 ∷ []) ≡ 127 ∷ 127 ∷ 126 ∷ 1 ∷ 0 ∷ 0 ∷ 0 ∷ []
to = refl

-- from a number on: each of them, all but the first, the last alone, none
from : map (first_from 100) (negsuc 0 ∷ pos 0 ∷ pos 100 ∷ pos 101 ∷ pos 102 ∷ pos 227 ∷ pos 228 ∷ pos 300 ∷ []) ≡ 1 ∷ 1 ∷ 1 ∷ 1 ∷ 2 ∷ 127 ∷ 128 ∷ 128 ∷ []
from = refl

abbrev limited : List Property → TextSection
limited limits = record { kind = Object 0x2000; name = []; line = 1; properties = limits }

abbrev limit : List ℕ → List ℕ → Property
limit name value = record { name = name; value = value; line = 2 }

-- by the type, by HighLimit, by the smaller of both
last : last_node Unsigned8 (limited []) 0xF0 ∷ last_node Boolean (limited []) 0 ∷ last_node Integer8 (limited []) 0 ∷ last_node Unsigned16 (limited (limit (codes "HighLimit") (codes "1000") ∷ [])) 996
    ∷ last_node Unsigned8 (limited (limit (codes "HighLimit") (codes "1000") ∷ [])) 0xF0 ∷ last_node Integer8 (limited (limit (codes "HighLimit") (codes "0xFF") ∷ [])) 0 ∷ last_node Unsigned8 (limited (limit (codes "HighLimit") (codes "x") ∷ [])) 0xF0 ∷ []
    ≡ 15 ∷ 1 ∷ 127 ∷ 4 ∷ 15 ∷ 0 ∷ 15 ∷ []
last = refl

first : first_node Unsigned8 (limited []) 0 ∷ first_node Unsigned8 (limited (limit (codes "LowLimit") (codes "10") ∷ [])) 0 ∷ first_node Integer8 (limited (limit (codes "LowLimit") (codes "0x80") ∷ [])) 0 ∷ [] ≡ 1 ∷ 10 ∷ 1 ∷ []
first = refl

-- of the line of a value, in the section that it is in
abbrev sections : List TextSection
sections =
    record { kind = Object 0x2000; name = []; line = 1; properties = limit (codes "DataType") (codes "5") ∷ [] }
    ∷ record { kind = SubIndex (record { index = 0x2001; sub = 3 }); name = []; line = 10; properties = limit (codes "DataType") (codes "6") ∷ limit (codes "LowLimit") (codes "200") ∷ limit (codes "HighLimit") (codes "210") ∷ [] }
    ∷ record { kind = Object 0x2002; name = []; line = 20; properties = limit (codes "DataType") (codes "9") ∷ [] } ∷ []

abbrev of_entry : ℕ → ℕ → ℕ → List ℕ → About
of_entry index sub line text = value_range (record { index = index; sub = sub }) line sections text

ranges : of_entry 0x2000 0 5 (codes "DefaultValue=$NODEID+0xF0") ∷ of_entry 0x2000 0 5 (codes "DefaultValue = 0xFF + $nodeid") ∷ of_entry 0x2001 3 15 (codes "ParameterValue=$NODEID+190") ∷ of_entry 0x2001 3 15 (codes "DefaultValue=$NODEID+72") ∷ []
    ≡ Sum 0x2000 0 1 15 ∷ NoSum 0x2000 0 ∷ Sum 0x2001 3 10 20 ∷ NoSum 0x2001 3 ∷ []
ranges = refl

-- a value that is no sum, of a type without numbers, and before the first section
no_sums : of_entry 0x2000 0 5 (codes "DefaultValue=5") ∷ of_entry 0x2002 0 25 (codes "DefaultValue=$NODEID") ∷ of_entry 0x2000 0 1 (codes "DefaultValue=$NODEID") ∷ [] ≡ Entry 0x2000 0 ∷ Entry 0x2002 0 ∷ Entry 0x2000 0 ∷ []
no_sums = refl

messages : about_message (Sum 0x2000 0 1 15) (codes "m") ∷ about_message (NoSum 0x2001 3) (codes "m") ∷ [] ≡ codes "2000:00: m; it is right for 1 to 15" ∷ codes "2001:03: m; it is right for none" ∷ []
unfolding about_message filled digits_text digits
messages = refl

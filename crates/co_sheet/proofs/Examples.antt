-- Worked examples, computed from the definitions: a small data sheet, each fault by one change to it, and cases at the edges.
use Rattle.std.proofs.Common.{◌≡◌, ℕ, List, [], ◌∷◌, ◌++◌, refl, codes, Some, None, Option, ◌<◌, length, true, ltb, arith}
use Rattle.std.proofs.lemmas.Bool.Decides.{nat_tests}
use Rattle.std.specs.Prelude.{flat_map, slice_set, remove, take, drop, pos, false, ◌-◌}
use Rattle.co_sheet_rows.specs.declared.fault.SheetFault.{SheetFault}
use Rattle.co_sheet_rows.specs.declared.fault.FaultKind.TheVariants.{TooLarge, BadLine, KeyOutsideSection, DuplicateSection, DuplicateKey, MissingSection, BadNumber, AmbiguousNumber, BadList, ListedTwice, MissingKey, BadType, LeftOutType, BadAccess, BadLimits, BadDefault, MissingSub0, CompactForm, MissingMandatory}
use Rattle.co_profile.specs.declared.access.Access.TheVariants.{Ro}
use Rattle.co_value.specs.declared.data_type.DataType.TheVariants.{Unsigned8, Unsigned32}
use Rattle.std.specs.Option.{option_or}
use Rattle.co_sheet.specs.Faults.{fault_at}
use Rattle.co_sheet.specs.Checks.{checks}
use Rattle.co_value.specs.declared.data_type.DataType.{DataType}
use Rattle.co_profile.specs.declared.access.Access.{Access}
use Rattle.co_sheet.specs.Limits.{Default, absent, number}
use Rattle.co_sheet.specs.Accepted.{first_fault, first_bad_line, first_found, sections_in}
use Rattle.co_sheet.specs.Content.{rows_of, Row}

-- lines as a text, each ended by LF
abbrev pub joined : List (List ℕ) → List ℕ
joined lines = flat_map (λ line. line ++ 10 ∷ []) lines

abbrev pub small : List (List ℕ)
small = codes "[MandatoryObjects]" ∷ codes "SupportedObjects=3" ∷ codes "1=0x1000" ∷ codes "2=0x1001" ∷ codes "3=0x1018"
    ∷ codes "[1000]" ∷ codes "DataType=7" ∷ codes "AccessType=ro" ∷ codes "DefaultValue=0x191"
    ∷ codes "[1001]" ∷ codes "DataType=5" ∷ codes "AccessType=ro"
    ∷ codes "[1018]" ∷ codes "ObjectType=9"
    ∷ codes "[1018sub0]" ∷ codes "DataType=5" ∷ codes "AccessType=ro" ∷ codes "DefaultValue=1"
    ∷ codes "[1018sub1]" ∷ codes "DataType=7" ∷ codes "AccessType=ro" ∷ []

-- a text's fault, by its lines
abbrev pub fault_of : List (List ℕ) → Option SheetFault
fault_of lines = first_fault (joined lines)

-- the small sheet with line n, from 1, replaced
abbrev pub replaced : ℕ → List ℕ → List (List ℕ)
replaced n line = slice_set small (n - 1) line

-- with lines put after line n
abbrev pub with_lines : ℕ → List (List ℕ) → List (List ℕ)
with_lines n lines = take n small ++ lines ++ drop n small

small_is_accepted : fault_of small ≡ None
small_is_accepted = refl

abbrev row : ℕ → ℕ → DataType → Access → Default → ℕ → Row
row index sub t access default line = record { key = record { index = index; sub = sub }; data_type = t; access = access; low = None; high = None; default = default; mappable = false; name = None; line = line }

small_rows : rows_of (joined small) ≡
    row 0x1000 0 Unsigned32 Ro (number (pos 0x191)) 6 ∷ row 0x1001 0 Unsigned8 Ro absent 10
    ∷ row 0x1018 0 Unsigned8 Ro (number (pos 1)) 15 ∷ row 0x1018 1 Unsigned32 Ro absent 19 ∷ []
small_rows = refl

bad_line : fault_of (replaced 6 (codes "[1000")) ≡ Some (fault_at 6 BadLine)
bad_line = refl

key_outside_section : fault_of (codes "x=1" ∷ small) ≡ Some (fault_at 1 KeyOutsideSection)
key_outside_section = refl

duplicate_section : fault_of (with_lines 21 (codes "[1001]" ∷ [])) ≡ Some (fault_at 22 DuplicateSection)
duplicate_section = refl

duplicate_key : fault_of (with_lines 7 (codes "datatype=7" ∷ [])) ≡ Some (fault_at 8 DuplicateKey)
duplicate_key = refl

missing_section : fault_of (replaced 5 (codes "3=0x1019")) ≡ Some (fault_at 5 MissingSection)
missing_section = refl

bad_number : fault_of (replaced 3 (codes "1=4096x")) ≡ Some (fault_at 3 BadNumber)
bad_number = refl

ambiguous_number : fault_of (replaced 9 (codes "DefaultValue=010")) ≡ Some (fault_at 9 AmbiguousNumber)
ambiguous_number = refl

listed_twice : fault_of (replaced 4 (codes "2=0x1000")) ≡ Some (fault_at 4 ListedTwice)
listed_twice = refl

missing_key : fault_of (remove small 19) ≡ Some (fault_at 19 MissingKey)
missing_key = refl

bad_type : fault_of (replaced 20 (codes "DataType=0x40")) ≡ Some (fault_at 20 BadType)
bad_type = refl

left_out_type : fault_of (replaced 20 (codes "DataType=8")) ≡ Some (fault_at 20 LeftOutType)
left_out_type = refl

bad_access : fault_of (replaced 21 (codes "AccessType=rx")) ≡ Some (fault_at 21 BadAccess)
bad_access = refl

bad_limits : fault_of (with_lines 21 (codes "LowLimit=2" ∷ codes "HighLimit=1" ∷ [])) ≡ Some (fault_at 23 BadLimits)
bad_limits = refl

bad_default : fault_of (with_lines 21 (codes "HighLimit=1" ∷ codes "DefaultValue=2" ∷ [])) ≡ Some (fault_at 23 BadDefault)
bad_default = refl

missing_sub_index_0 : fault_of (take 14 small ++ drop 18 small) ≡ Some (fault_at 13 MissingSub0)
missing_sub_index_0 = refl

compact_form : fault_of (with_lines 14 (codes "CompactSubObj=2" ∷ [])) ≡ Some (fault_at 15 CompactForm)
compact_form = refl

missing_mandatory : fault_of (replaced 2 (codes "SupportedObjects=2")) ≡ Some (fault_at 0 MissingMandatory)
missing_mandatory = refl

-- the first three lines alone: a list without one of its keys
cut_after_line_3 : fault_of (take 3 small) ≡ Some (fault_at 1 BadList)
cut_after_line_3 = refl

empty_text : first_fault [] ≡ Some (fault_at 0 MissingSection)
empty_text = refl

-- a text of more than 1,048,576 bytes, whatever it contains
too_large : (bytes : List ℕ) → 1048576 < length bytes → first_fault bytes ≡ Some (fault_at 0 TooLarge)
too_large bytes h =
    let test : ltb 1048576 (length bytes) ≡ true = grind (arith, nat_tests) in
    rw test refl

-- one of just so many is not: its lines and the checks say what is wrong with it
large_enough : (bytes : List ℕ) → length bytes ≡ 1048576
    → first_fault bytes ≡ option_or (first_bad_line bytes) (first_found checks (sections_in bytes))
large_enough bytes h =
    let test : ltb 1048576 (length bytes) ≡ false = grind (arith, nat_tests) in
    rw test refl

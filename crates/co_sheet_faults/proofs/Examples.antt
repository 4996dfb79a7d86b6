-- All faults of small texts: each of the kinds, and what rests on a value at fault.
use Rattle.std.proofs.Common.{◌≡◌, ℕ, List, [], ◌∷◌, ◌++◌, refl, codes, arith}
use Rattle.std.specs.Prelude.{slice_set, replicate}
use Rattle.co_sheet_rows.specs.declared.fault.SheetFault.{SheetFault}
use Rattle.co_sheet_rows.specs.declared.fault.FaultKind.TheVariants.{TooLarge, BadLine, KeyOutsideSection, DuplicateSection, DuplicateKey, MissingSection, BadNumber, AmbiguousNumber, BadList, ListedTwice, MissingKey, BadType, LeftOutType, BadAccess, BadLimits, BadDefault, MissingSub0, CompactForm, MissingMandatory}
use Rattle.co_sheet.specs.Faults.{fault_at}
use Rattle.co_sheet_text.specs.Text.{Line, lines_of}
use Rattle.co_sheet_faults.specs.AllFaults.{faults_in, faults_of}
use Rattle.co_sheet_faults.specs.FaultLaws.{IsLineKind, emptied_at}

-- lines as a text, each ended by LF
abbrev joined : List (List ℕ) → List ℕ
joined [] = []
joined (line ∷ lines) = line ++ 10 ∷ joined lines

abbrev faults : List (List ℕ) → List SheetFault
faults lines = faults_of (joined lines)

-- a list, which is a sheet's first section
abbrev of_list : List (List ℕ) → List SheetFault
of_list lines = faults (codes "[MandatoryObjects]" ∷ lines)

-- an UNSIGNED32
abbrev object_2000 : List (List ℕ)
object_2000 = codes "[2000]" ∷ codes "DataType=7" ∷ codes "AccessType=ro" ∷ []

-- the list of one object and its section, with these lines from line 5 on
abbrev one_object : List ℕ → List (List ℕ) → List (List ℕ)
one_object index lines =
    codes "[MandatoryObjects]" ∷ codes "SupportedObjects=1" ∷ (codes "1=0x" ++ index) ∷ (91 ∷ index ++ 93 ∷ []) ∷ lines

abbrev of_object : List (List ℕ) → List SheetFault
of_object lines = faults (one_object (codes "2000") lines)

-- an UNSIGNED32 with these lines, from line 7 on
abbrev one_number : List (List ℕ) → List (List ℕ)
one_number lines = one_object (codes "2000") (codes "DataType=7" ∷ codes "AccessType=ro" ∷ lines)

abbrev of_number : List (List ℕ) → List SheetFault
of_number lines = faults (one_number lines)

-- what the list of one object lacks
abbrev lacking : List SheetFault
lacking = fault_at 0 MissingMandatory ∷ []

-- ---- a data sheet

abbrev small : List (List ℕ)
small = codes "[MandatoryObjects]" ∷ codes "SupportedObjects=3" ∷ codes "1=0x1000" ∷ codes "2=0x1001" ∷ codes "3=0x1018"
    ∷ codes "[1000]" ∷ codes "DataType=7" ∷ codes "AccessType=ro" ∷ codes "DefaultValue=0x191"
    ∷ codes "[1001]" ∷ codes "DataType=5" ∷ codes "AccessType=ro"
    ∷ codes "[1018]" ∷ codes "ObjectType=9"
    ∷ codes "[1018sub0]" ∷ codes "DataType=5" ∷ codes "AccessType=ro" ∷ codes "DefaultValue=1"
    ∷ codes "[1018sub1]" ∷ codes "DataType=7" ∷ codes "AccessType=ro" ∷ []

small_has_none : faults small ≡ []
small_has_none = refl

-- several, in the order of the checks
several : faults (slice_set (slice_set (slice_set (slice_set small 7 (codes "AccessType=r")) 8 (codes "DefaultValue=none")) 10 (codes "DataType=6")) 19 (codes "DataType"))
    ≡ fault_at 20 BadLine ∷ fault_at 19 MissingKey ∷ fault_at 11 BadType ∷ fault_at 8 BadAccess ∷ fault_at 9 BadNumber ∷ []
several = refl

-- a key that isn't counted names nothing
missing_mandatory : faults (slice_set small 1 (codes "SupportedObjects=2")) ≡ fault_at 0 MissingMandatory ∷ []
missing_mandatory = refl

-- ---- each kind

-- the section that nothing reads is none for the object that is listed
bad_section_line : of_list (codes "SupportedObjects=1" ∷ codes "1=0x2000" ∷ codes "[2000" ∷ codes "DataType=7" ∷ []) ≡ fault_at 4 BadLine ∷ fault_at 3 MissingSection ∷ []
bad_section_line = refl

bad_line : of_number (codes "LowLimit 3" ∷ codes "=7" ∷ []) ≡ fault_at 7 BadLine ∷ fault_at 8 BadLine ∷ lacking
bad_line = refl

key_outside_section : faults (codes "x=1" ∷ codes "y" ∷ codes "[x]" ∷ []) ≡ fault_at 1 KeyOutsideSection ∷ fault_at 2 KeyOutsideSection ∷ fault_at 0 MissingSection ∷ []
key_outside_section = refl

duplicate_section : of_number (codes "[2000]" ∷ []) ≡ fault_at 7 DuplicateSection ∷ lacking
duplicate_section = refl

duplicate_key : of_number (codes "datatype=7" ∷ codes "DataType=x" ∷ []) ≡ fault_at 7 DuplicateKey ∷ fault_at 8 DuplicateKey ∷ lacking
duplicate_key = refl

missing_section : of_list (codes "SupportedObjects=1" ∷ codes "1=0x2000" ∷ codes "[2001]" ∷ []) ≡ fault_at 3 MissingSection ∷ []
missing_section = refl

no_lists : faults [] ≡ fault_at 0 MissingSection ∷ []
no_lists = refl

bad_number : of_list (codes "SupportedObjects=1" ∷ codes "1=8192x" ∷ []) ≡ fault_at 3 BadNumber ∷ []
bad_number = refl

ambiguous_number : of_number (codes "DefaultValue=010" ∷ []) ≡ fault_at 7 AmbiguousNumber ∷ lacking
ambiguous_number = refl

bad_list : of_list (codes "SupportedObjects=3" ∷ codes "1=0x1000" ∷ []) ≡ fault_at 1 BadList ∷ fault_at 3 MissingSection ∷ []
bad_list = refl

listed_twice : of_list (codes "SupportedObjects=2" ∷ codes "1=0x2000" ∷ codes "2=0x2000" ∷ object_2000) ≡ fault_at 4 ListedTwice ∷ []
listed_twice = refl

missing_key : of_object (codes "ObjectType=9" ∷ codes "[2000sub0]" ∷ codes "DataType=5" ∷ codes "AccessType=ro" ∷ codes "[2000sub1]" ∷ codes "AccessType=ro" ∷ []) ≡ fault_at 9 MissingKey ∷ lacking
missing_key = refl

bad_type : of_object (codes "DataType=0x40" ∷ codes "AccessType=ro" ∷ []) ≡ fault_at 5 BadType ∷ lacking
bad_type = refl

left_out_type : of_object (codes "DataType=8" ∷ codes "AccessType=ro" ∷ []) ≡ fault_at 5 LeftOutType ∷ lacking
left_out_type = refl

bad_access : of_object (codes "DataType=7" ∷ codes "AccessType=rx" ∷ []) ≡ fault_at 6 BadAccess ∷ lacking
bad_access = refl

bad_limits : of_number (codes "LowLimit=2" ∷ codes "HighLimit=1" ∷ []) ≡ fault_at 8 BadLimits ∷ lacking
bad_limits = refl

bad_default : of_number (codes "HighLimit=1" ∷ codes "DefaultValue=2" ∷ []) ≡ fault_at 8 BadDefault ∷ lacking
bad_default = refl

missing_sub_index_0 : of_object (codes "ObjectType=9" ∷ codes "[2000sub1]" ∷ codes "DataType=7" ∷ codes "AccessType=ro" ∷ []) ≡ fault_at 4 MissingSub0 ∷ lacking
missing_sub_index_0 = refl

compact_form : of_object (codes "ObjectType=9" ∷ codes "CompactSubObj=2" ∷ codes "[2000sub0]" ∷ codes "DataType=5" ∷ codes "AccessType=ro" ∷ []) ≡ fault_at 6 CompactForm ∷ lacking
compact_form = refl

long_line : faults ((59 ∷ replicate 512 97) ∷ []) ≡ fault_at 1 TooLarge ∷ fault_at 0 MissingSection ∷ []
long_line = refl

-- ---- what a line at fault leaves open

-- a bad section line ends the section before it, also before the first
after_bad_section_line : faults (codes "[x" ∷ codes "y=1" ∷ codes "z" ∷ []) ≡ fault_at 1 BadLine ∷ fault_at 0 MissingSection ∷ []
after_bad_section_line = refl

not_in_the_section_before : of_number (codes "[2001" ∷ codes "DataType=9" ∷ codes "AccessType 9" ∷ []) ≡ fault_at 7 BadLine ∷ lacking
not_in_the_section_before = refl

-- nothing is read of a section that comes again
in_second_section : of_number (codes "[2000]" ∷ codes "DataType 5" ∷ codes "LowLimit=x" ∷ codes "LowLimit=y" ∷ []) ≡ fault_at 7 DuplicateSection ∷ lacking
in_second_section = refl

-- a line that is too long is no key, and its own fault alone
long_key : of_number ((codes "DefaultValue=" ++ replicate 500 97) ∷ []) ≡ fault_at 7 TooLarge ∷ lacking
long_key = refl

long_bad_line : of_number (replicate 513 97 ∷ []) ≡ fault_at 7 TooLarge ∷ lacking
long_bad_line = refl

-- a key that comes again is none
second_place : of_list (codes "SupportedObjects=1" ∷ codes "1=0x2000" ∷ codes "1=0x2001" ∷ object_2000) ≡ fault_at 4 DuplicateKey ∷ lacking
second_place = refl

-- ---- what rests on a value at fault

count_unread : of_list (codes "SupportedObjects=1x" ∷ codes "1=0x2000" ∷ object_2000) ≡ fault_at 2 BadNumber ∷ []
count_unread = refl

count_missing : of_list (codes "1=0x2000" ∷ object_2000) ≡ fault_at 1 BadList ∷ []
count_missing = refl

count_too_large : of_list (codes "SupportedObjects=65536" ∷ codes "1=0x2000" ∷ object_2000) ≡ fault_at 1 BadList ∷ []
count_too_large = refl

no_index : of_list (codes "SupportedObjects=1" ∷ codes "1=0x12000" ∷ []) ≡ fault_at 1 BadList ∷ []
no_index = refl

no_index_twice : of_list (codes "SupportedObjects=2" ∷ codes "1=0x12000" ∷ codes "2=0x12000" ∷ []) ≡ fault_at 1 BadList ∷ []
no_index_twice = refl

-- keys that aren't counted name nothing
past_the_count : of_list (codes "SupportedObjects=1" ∷ codes "1=0x2000" ∷ codes "2=0x12000" ∷ codes "3=0x12000" ∷ object_2000) ≡ lacking
past_the_count = refl

missing_twice : of_list (codes "SupportedObjects=2" ∷ codes "1=0x2000" ∷ codes "2=0x2000" ∷ []) ≡ fault_at 4 ListedTwice ∷ fault_at 3 MissingSection ∷ []
missing_twice = refl

-- what is in an object is found once
object_listed_twice : of_list (codes "SupportedObjects=2" ∷ codes "1=0x2000" ∷ codes "2=0x2000" ∷ codes "[2000]" ∷ codes "DataType=7" ∷ codes "AccessType=rx" ∷ []) ≡ fault_at 4 ListedTwice ∷ fault_at 7 BadAccess ∷ []
object_listed_twice = refl

-- which entries an object has rests on its ObjectType
object_type_unread : of_object (codes "ObjectType=x" ∷ []) ≡ fault_at 5 BadNumber ∷ lacking
object_type_unread = refl

object_type_of_none : of_object (codes "ObjectType=5" ∷ []) ≡ fault_at 5 BadType ∷ lacking
object_type_of_none = refl

sub_index_type : of_object (codes "ObjectType=9" ∷ codes "[2000sub0]" ∷ codes "ObjectType=8" ∷ codes "AccessType=ro" ∷ []) ≡ fault_at 7 BadType ∷ lacking
sub_index_type = refl

sub_index_type_unread : of_object (codes "ObjectType=9" ∷ codes "[2000sub0]" ∷ codes "ObjectType=08" ∷ codes "AccessType=ro" ∷ []) ≡ fault_at 7 AmbiguousNumber ∷ lacking
sub_index_type_unread = refl

compact_without_sub_indices : of_object (codes "ObjectType=9" ∷ codes "CompactSubObj=2" ∷ []) ≡ fault_at 6 CompactForm ∷ lacking
compact_without_sub_indices = refl

compact_unread : of_object (codes "ObjectType=9" ∷ codes "CompactSubObj=2x" ∷ []) ≡ fault_at 6 BadNumber ∷ lacking
compact_unread = refl

-- 1001:00 is an UNSIGNED8, 1000:00 an UNSIGNED32
fixed_left_out : faults (one_object (codes "1001") (codes "DataType=8" ∷ codes "AccessType=ro" ∷ [])) ≡ fault_at 5 BadType ∷ lacking
fixed_left_out = refl

default_unread_at_other_type : faults (one_object (codes "1000") (codes "DataType=5" ∷ codes "AccessType=ro" ∷ codes "DefaultValue=x" ∷ [])) ≡ fault_at 5 BadType ∷ lacking
default_unread_at_other_type = refl

values_at_other_type : faults (one_object (codes "1000") (codes "DataType=5" ∷ codes "AccessType=ro" ∷ codes "DefaultValue=0x191" ∷ codes "HighLimit=256" ∷ [])) ≡ fault_at 5 BadType ∷ lacking
values_at_other_type = refl

type_unread : of_object (codes "DataType=5x" ∷ codes "AccessType=ro" ∷ codes "DefaultValue=0x191" ∷ []) ≡ fault_at 5 BadNumber ∷ lacking
type_unread = refl

both_limits_outside : of_number (codes "LowLimit=-1" ∷ codes "HighLimit=-2" ∷ []) ≡ fault_at 7 BadLimits ∷ fault_at 8 BadLimits ∷ lacking
both_limits_outside = refl

low_limit_outside_alone : of_number (codes "LowLimit=0x100000000" ∷ []) ≡ fault_at 7 BadLimits ∷ lacking
low_limit_outside_alone = refl

-- HighLimit below a LowLimit that is outside the type: one fault, and a default is held against HighLimit; two where HighLimit comes first
high_limit_below_bad_low : of_number (codes "LowLimit=0x100000000" ∷ codes "HighLimit=1" ∷ codes "DefaultValue=2" ∷ []) ≡ fault_at 7 BadLimits ∷ fault_at 9 BadDefault ∷ lacking
high_limit_below_bad_low = refl

high_limit_below_low : of_number (codes "HighLimit=1" ∷ codes "LowLimit=0x100000000" ∷ []) ≡ fault_at 8 BadLimits ∷ fault_at 7 BadLimits ∷ lacking
high_limit_below_low = refl

high_limit_unread : of_number (codes "LowLimit=2" ∷ codes "HighLimit=1x" ∷ codes "DefaultValue=3" ∷ []) ≡ fault_at 8 BadNumber ∷ lacking
high_limit_unread = refl

-- a default is held against the limit that is not at fault
default_above_bad_limit : of_number (codes "LowLimit=5" ∷ codes "HighLimit=3" ∷ codes "DefaultValue=6" ∷ []) ≡ fault_at 8 BadLimits ∷ lacking
default_above_bad_limit = refl

default_below_bad_limit : of_number (codes "LowLimit=0x100000000" ∷ codes "DefaultValue=3" ∷ []) ≡ fault_at 7 BadLimits ∷ lacking
default_below_bad_limit = refl

default_below_low_limit : of_number (codes "LowLimit=5" ∷ codes "HighLimit=3" ∷ codes "DefaultValue=4" ∷ codes "ParameterValue=5" ∷ []) ≡ fault_at 8 BadLimits ∷ fault_at 9 BadDefault ∷ lacking
default_below_low_limit = refl

-- ---- the last kind of a line's own fault, and the next

last_line_kind : IsLineKind DuplicateKey
last_line_kind = omega arith

no_line_kind : IsLineKind MissingSection → ⊥
no_line_kind h = absurd (omega arith)

-- ---- lines at fault that are emptied

abbrev lines_with : List (List ℕ) → List Line
lines_with lines = lines_of (joined (one_number lines))

-- the default is held against the limit that was not at fault
limits_emptied : faults_in (emptied_at BadLimits (lines_with (codes "LowLimit=2" ∷ codes "HighLimit=1" ∷ codes "DefaultValue=1" ∷ []))) ≡ fault_at 9 BadDefault ∷ lacking
limits_emptied = refl

default_emptied : faults_in (emptied_at BadDefault (lines_with (codes "LowLimit=2" ∷ codes "HighLimit=1" ∷ codes "DefaultValue=1" ∷ []))) ≡ fault_at 8 BadLimits ∷ lacking
default_emptied = refl

-- without a first limit, a second is none any more
limit_twice : faults_in (lines_with (codes "LowLimit=-1" ∷ codes "LowLimit=2" ∷ [])) ≡ fault_at 8 DuplicateKey ∷ fault_at 7 BadLimits ∷ lacking
limit_twice = refl

first_limit_emptied : faults_in (emptied_at BadLimits (lines_with (codes "LowLimit=-1" ∷ codes "LowLimit=2" ∷ []))) ≡ lacking
first_limit_emptied = refl

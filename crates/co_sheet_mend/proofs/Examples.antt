-- What comes in place of lines at fault, evaluated on both sides of each edge.
use Rattle.std.proofs.Common.{◌≡◌, ℕ, List, [], ◌∷◌, ◌++◌, Some, None, refl, map}
use Rattle.std.specs.Fmt.{digits}
use Rattle.std.specs.Prelude.{codes, false}
use Rattle.co_sheet_rows.specs.declared.fault.FaultKind.{FaultKind}
use Rattle.co_sheet_rows.specs.declared.fault.FaultKind.TheVariants.{BadNumber, BadType, BadAccess, BadDefault, BadList, MissingKey, MissingMandatory, MissingSection, MissingSub0, TooLarge, Memory}
use Rattle.co_sheet_rows.specs.declared.fault.SheetFault.{SheetFault}
use Rattle.co_sheet_text.specs.declared.section_kind.SectionKind.{SectionKind}
use Rattle.co_sheet_text.specs.declared.section_kind.SectionKind.TheVariants.{Object, SubIndex}
use Rattle.co_sheet_text.specs.Text.{Line}
use Rattle.co_sheet_changes.specs.Pieces.{assigned}
use Rattle.co_sheet_faults.specs.AllFaults.{faults_of}
use Rattle.co_sheet_mend.specs.declared.repair.Repair.TheVariants.{Emptied, Typed, ReadWrite, Completed, Counted, Numbered}
use Rattle.co_sheet_mend.specs.NameLaws.{name_read}
use Rattle.co_sheet_mend.specs.ReadableTexts.{mended_in}
use Rattle.co_sheet_mend.specs.Repairs.{counted_text, line_as, mandatory_sections, mended_by, mended_lines, objects_named, repair_at, repair_for, sub0_text, type_code}

abbrev line : ℕ → List ℕ → Line
line number bytes = record { number = number; bytes = bytes }

abbrev fault : ℕ → FaultKind → SheetFault
fault number kind = record { kind = kind; line = number }

-- lines as a text, each ended by LF
abbrev joined : List (List ℕ) → List ℕ
joined [] = []
joined (bytes ∷ more) = bytes ++ 10 ∷ joined more

-- ---- which repair a line has

at_its_line : map (repair_at (fault 5 BadNumber ∷ [])) (4 ∷ 5 ∷ 6 ∷ []) ≡ None ∷ Some Emptied ∷ None ∷ []
unfolding repair_at repair_for
at_its_line = refl

-- out of memory is no fault of the text
nothing_helps : repair_at (fault 0 Memory ∷ []) 0 ≡ None
unfolding repair_at repair_for
nothing_helps = refl

-- a line of more than 512 bytes
long_line : repair_at (fault 5 TooLarge ∷ []) 5 ≡ Some Emptied
unfolding repair_at repair_for
long_line = refl

-- of two faults at a line, whatever their order
first_of_two : repair_at (fault 5 BadType ∷ fault 5 BadDefault ∷ []) 5 ≡ Some Emptied
unfolding repair_at repair_for
first_of_two = refl

-- ---- what a line becomes

as_it_is : line_as None None (line 1 (codes "LowLimit=5")) [] ≡ codes "LowLimit=5\n"
unfolding line_as
as_it_is = refl

-- a CR at the end of a line, before that of its end
return_stays : line_as None None (line 1 (codes "ParameterName=A\r")) [] ≡ codes "ParameterName=A\r\r\n"
unfolding line_as
return_stays = refl

emptied_value : line_as (Some Emptied) None (line 1 (codes "DefaultValue=0x6G")) [] ≡ codes "\n"
unfolding line_as
emptied_value = refl

-- a section line, and one that isn't closed
emptied_section : line_as (Some Emptied) None (line 1 (codes "[2000]")) [] ≡ codes "[]\n"
unfolding line_as
emptied_section = refl

emptied_open_section : line_as (Some Emptied) None (line 1 (codes " [2000")) [] ≡ codes "[]\n"
unfolding line_as
emptied_open_section = refl

-- the object type ARRAY or RECORD becomes its number, in any case of letters, with blanks around it, where a section of a sub-index is next
abbrev dropped_before : List Line → List ℕ → List ℕ
dropped_before more bytes = line_as (Some Emptied) (Some (record { index = 0x2000; sub = 0 })) (line 1 bytes) more

abbrev sub_next : List Line
sub_next = line 2 (codes "SubNumber=2") ∷ line 3 (codes "[2000sub0]") ∷ line 4 (codes "[2001]") ∷ []

array_word : dropped_before sub_next (codes "objecttype = Array ") ≡ codes "ObjectType=8\n"
unfolding line_as assigned
array_word = refl

record_word : dropped_before sub_next (codes " ObjectType=\trecord ") ≡ codes "ObjectType=9\n"
unfolding line_as assigned
record_word = refl

-- a word of no object with sub-indices, two words, a part of one, numbers, no value, another property, no property
no_word : map (dropped_before sub_next)
    (codes "ObjectType=VAR" ∷ codes "ObjectType=DOMAIN" ∷ codes "ObjectType=DEFSTRUCT" ∷ codes "ObjectType=RECORD 9" ∷ codes "ObjectType=RECOR" ∷ codes "ObjectType=09"
    ∷ codes "ObjectType=" ∷ codes "DataType=RECORD" ∷ codes "ObjectType RECORD" ∷ codes ";ObjectType=RECORD" ∷ [])
    ≡ codes "\n" ∷ codes "\n" ∷ codes "\n" ∷ codes "\n" ∷ codes "\n" ∷ codes "\n" ∷ codes "\n" ∷ codes "\n" ∷ codes "\n" ∷ codes "\n" ∷ []
unfolding line_as assigned
no_word = refl

-- the next section is another object, one of another object's sub-index, or there is none
no_sub_next : map (λ more. dropped_before more (codes "ObjectType=RECORD"))
    ((line 2 (codes "[2001]") ∷ line 3 (codes "[2000sub1]") ∷ []) ∷ (line 2 (codes "[2001sub1]") ∷ []) ∷ (line 2 (codes "CompactSubObj=2") ∷ []) ∷ [])
    ≡ codes "\n" ∷ codes "\n" ∷ codes "\n" ∷ []
unfolding line_as assigned
no_sub_next = refl

bytes_of_type : line_as (Some Typed) None (line 1 (codes "datatype = 0x0099")) [] ≡ codes "DataType=15\n"
unfolding line_as type_code assigned digits
bytes_of_type = refl

-- the type that CiA 301 fixes: 1017:00 is an UNSIGNED16, and 1A00:01 an UNSIGNED32; of 1017:01 none
fixed_type : line_as (Some Typed) (Some (record { index = 0x1017; sub = 0 })) (line 1 (codes "DataType=5")) [] ≡ codes "DataType=6\n"
unfolding line_as type_code assigned digits
fixed_type = refl

mapped_type : line_as (Some Typed) (Some (record { index = 0x1A00; sub = 1 })) (line 1 (codes "DataType=5")) [] ≡ codes "DataType=7\n"
unfolding line_as type_code assigned digits
mapped_type = refl

no_fixed_type : line_as (Some Typed) (Some (record { index = 0x1017; sub = 1 })) (line 1 (codes "DataType=5")) [] ≡ codes "DataType=15\n"
unfolding line_as type_code assigned digits
no_fixed_type = refl

-- the type that the entry has: its object is a DOMAIN
own_type : line_as (Some Typed) (Some (record { index = 0x1017; sub = 0 })) (line 1 (codes "DataType=0x0006")) [] ≡ codes "\n"
unfolding line_as type_code
own_type = refl

-- of an object type nothing
no_object_type : line_as (Some Typed) None (line 1 (codes "ObjectType=0x99")) [] ≡ codes "\n"
unfolding line_as assigned
no_object_type = refl

no_object_code : line_as (Some Typed) None (line 1 (codes "ObjectType=77")) [] ≡ codes "\n"
unfolding line_as assigned
no_object_code = refl

-- of a section line that line, and a VAR
no_domain : line_as (Some Typed) (Some (record { index = 0x1017; sub = 0 })) (line 4 (codes "[1017]")) [] ≡ codes "[1017]\nObjectType=7\n"
unfolding line_as assigned
no_domain = refl

read_write : line_as (Some ReadWrite) None (line 1 (codes "AccessType=all")) [] ≡ codes "AccessType=rw\n"
unfolding line_as assigned
read_write = refl

-- what the section lacks, up to the next section line
completed : line_as (Some Completed) None (line 1 (codes "[2000]")) (line 2 (codes "ParameterName=A") ∷ line 3 (codes "[2001]") ∷ line 4 (codes "DataType=5") ∷ [])
    ≡ codes "[2000]\nDataType=15\nAccessType=rw\n"
unfolding line_as type_code assigned digits
completed = refl

completed_access : line_as (Some Completed) None (line 1 (codes "[2000]")) (line 2 (codes "DataType=5") ∷ []) ≡ codes "[2000]\nAccessType=rw\n"
unfolding line_as assigned
completed_access = refl

-- ---- lines one after another

three_lines : mended_lines (repair_at (fault 1 MissingKey ∷ fault 3 BadAccess ∷ [])) false None (line 1 (codes "[2000]") ∷ line 2 (codes "ParameterName=A") ∷ line 3 (codes "AccessType=all") ∷ [])
    ≡ codes "[2000]\nDataType=15\nParameterName=A\nAccessType=rw\n"
unfolding repair_at repair_for line_as type_code assigned digits
three_lines = refl

-- each line is of the entry of the last section line before it
typed_lines : mended_lines (repair_at (fault 2 BadType ∷ fault 4 BadType ∷ fault 6 BadType ∷ [])) false None
    (line 1 (codes "[1017]") ∷ line 2 (codes "DataType=9") ∷ line 3 (codes "[1A00sub1]") ∷ line 4 (codes "DataType=9") ∷ line 5 (codes "[Comments]") ∷ line 6 (codes "DataType=9") ∷ [])
    ≡ codes "[1017]\nDataType=6\n[1A00sub1]\nDataType=7\n[Comments]\nDataType=15\n"
unfolding repair_at repair_for line_as type_code assigned digits
typed_lines = refl

-- sub-index 0 before its object
with_sub0 : mended_lines (repair_at (fault 1 MissingSub0 ∷ [])) false None (line 1 (codes "[2000]") ∷ line 2 (codes "ObjectType=9") ∷ [])
    ≡ codes "[2000sub0]\nDataType=5\nAccessType=ro\n[2000]\nObjectType=9\n"
unfolding repair_at repair_for line_as sub0_text
with_sub0 = refl

-- a list that counts one object too many, and whose places aren't those from 1 on
counted_anew : mended_lines (repair_at (fault 1 BadList ∷ [])) false None
    (line 1 (codes "[OptionalObjects]") ∷ line 2 (codes "SupportedObjects=3") ∷ line 3 (codes "01 = 0x1008") ∷ line 4 (codes "4=0x1017") ∷ line 5 (codes "[1008]") ∷ line 6 (codes "1=2") ∷ [])
    ≡ codes "[OptionalObjects]\nSupportedObjects=2\n1=0x1008\n2=0x1017\n\n\n\n[1008]\n1=2\n"
unfolding repair_at repair_for line_as counted_text assigned digits
counted_anew = refl

-- an index of 16 bits, and one of more
counted_indices : counted_text (objects_named (line 2 (codes "1=0xFFFF") ∷ line 3 (codes "2=0x10000") ∷ [])) ≡ codes "SupportedObjects=1\n1=0xFFFF\n"
unfolding counted_text assigned digits
counted_indices = refl

-- ---- names

-- an entry without AccessType, whose values are at fault, and with a second name
abbrev faulty : List (List ℕ)
faulty = codes "[MandatoryObjects]" ∷ codes "SupportedObjects=1" ∷ codes "1=0x2000" ∷ codes "[2000]" ∷ codes "ParameterName=A" ∷ codes "DataType=5"
    ∷ codes "LowLimit=300" ∷ codes "DefaultValue=0x6G" ∷ codes "PDOMapping=z" ∷ codes "ParameterName=B" ∷ []

repairs_of_faulty : map (repair_at (faults_of (joined faulty))) (4 ∷ 5 ∷ 6 ∷ 7 ∷ 8 ∷ 9 ∷ 10 ∷ [])
    ≡ Some Completed ∷ None ∷ None ∷ Some Emptied ∷ Some Emptied ∷ Some Emptied ∷ Some Emptied ∷ []
unfolding repair_at repair_for
repairs_of_faulty = refl

-- a type and an access that are none
repairs_of_words : map (repair_at (faults_of (joined (codes "[MandatoryObjects]" ∷ codes "SupportedObjects=1" ∷ codes "1=0x2000" ∷ codes "[2000]" ∷ codes "ParameterName=A"
    ∷ codes "DataType=0x99" ∷ codes "AccessType=all" ∷ [])))) (4 ∷ 5 ∷ 6 ∷ 7 ∷ []) ≡ None ∷ None ∷ Some Typed ∷ Some ReadWrite ∷ []
unfolding repair_at repair_for
repairs_of_words = refl

-- an ARRAY without sub-index 0, and a sub-index whose type is no number
repairs_of_array : map (repair_at (faults_of (joined (codes "[MandatoryObjects]" ∷ codes "SupportedObjects=1" ∷ codes "1=0x2000" ∷ codes "[2000]" ∷ codes "ParameterName=A"
    ∷ codes "ObjectType=8" ∷ codes "[2000sub1]" ∷ codes "ParameterName=B" ∷ codes "DataType=z" ∷ codes "AccessType=ro" ∷ [])))) (4 ∷ 5 ∷ 6 ∷ 7 ∷ 8 ∷ 9 ∷ [])
    ≡ Some Numbered ∷ None ∷ None ∷ None ∷ None ∷ Some Emptied ∷ []
unfolding repair_at repair_for
repairs_of_array = refl

-- a DOMAIN without a type, where CiA 301 fixes another: at the section line; with one at the type
repairs_of_domain : map (repair_at (faults_of (joined (codes "[MandatoryObjects]" ∷ codes "SupportedObjects=1" ∷ codes "1=0x1017" ∷ codes "[1017]" ∷ codes "ParameterName=A"
    ∷ codes "ObjectType=2" ∷ [])))) (0 ∷ 4 ∷ 5 ∷ 6 ∷ []) ≡ Some Counted ∷ Some Typed ∷ None ∷ None ∷ []
unfolding repair_at repair_for
repairs_of_domain = refl

-- ---- a text with a fault at no line

-- 1018h isn't listed: the list counts all three too, and its own lines come after that
mandatory_listed : mended_by (repair_at (fault 0 MissingMandatory ∷ []))
    (line 1 (codes "[MandatoryObjects]") ∷ line 2 (codes "SupportedObjects=2") ∷ line 3 (codes "1=0x1000") ∷ line 4 (codes "2=4097") ∷ line 5 (codes "[1000]") ∷ [])
    ≡ codes "[MandatoryObjects]\nSupportedObjects=5\n1=0x1000\n2=4097\n3=0x1000\n4=0x1001\n5=0x1018\nSupportedObjects=2\n1=0x1000\n2=4097\n[1000]\n[1000]\nDataType=7\nAccessType=ro\n[1001]\nDataType=5\nAccessType=ro\n[1018]\nObjectType=9\n[1018sub0]\nDataType=5\nAccessType=ro\n"
unfolding repair_at repair_for counted_text mandatory_sections assigned digits
mandatory_listed = refl

-- no list of the mandatory objects, and a line at fault
list_begun : mended_by (repair_at (fault 0 MissingSection ∷ fault 2 BadNumber ∷ [])) (line 1 (codes "[OptionalObjects]") ∷ line 2 (codes "SupportedObjects=0x") ∷ [])
    ≡ codes "[OptionalObjects]\n\n[MandatoryObjects]\nSupportedObjects=0\n"
unfolding repair_at repair_for line_as
list_begun = refl

-- nor any other list
no_list : mended_by (repair_at (fault 0 MissingSection ∷ [])) (line 1 (codes "[FileInfo]") ∷ []) ≡ codes "[FileInfo]\n"
unfolding repair_at repair_for line_as
no_list = refl

-- ---- two rounds

-- a data type that is none, and a default that the type in its place doesn't have
abbrev two_faults : List (List ℕ)
two_faults = codes "[MandatoryObjects]" ∷ codes "SupportedObjects=3" ∷ codes "1=0x1000" ∷ codes "2=0x1001" ∷ codes "3=0x1018"
    ∷ codes "[1000]" ∷ codes "ParameterName=A" ∷ codes "DataType=7" ∷ codes "AccessType=ro"
    ∷ codes "[1001]" ∷ codes "ParameterName=B" ∷ codes "DataType=0x99" ∷ codes "AccessType=ro" ∷ codes "DefaultValue=300"
    ∷ codes "[1018]" ∷ codes "ParameterName=C" ∷ codes "ObjectType=9" ∷ codes "[1018sub0]" ∷ codes "DataType=5" ∷ codes "AccessType=ro" ∷ []

abbrev without_faults : List (List ℕ)
without_faults = codes "[MandatoryObjects]" ∷ codes "SupportedObjects=3" ∷ codes "1=0x1000" ∷ codes "2=0x1001" ∷ codes "3=0x1018"
    ∷ codes "[1000]" ∷ codes "ParameterName=A" ∷ codes "DataType=7" ∷ codes "AccessType=ro"
    ∷ codes "[1001]" ∷ codes "ParameterName=B" ∷ codes "DataType=5" ∷ codes "AccessType=ro" ∷ codes ""
    ∷ codes "[1018]" ∷ codes "ParameterName=C" ∷ codes "ObjectType=9" ∷ codes "[1018sub0]" ∷ codes "DataType=5" ∷ codes "AccessType=ro" ∷ []

one_round : mended_in 1 (joined two_faults) ≡ None
unfolding mended_in repair_at repair_for line_as type_code assigned digits
one_round = refl

two_rounds : mended_in 2 (joined two_faults) ≡ Some (joined without_faults)
unfolding mended_in repair_at repair_for line_as type_code assigned digits
two_rounds = refl

-- an object type in a word: the object has its sub-indices; a second one, which is dropped in the next round
abbrev in_a_word : List (List ℕ)
in_a_word = codes "[MandatoryObjects]" ∷ codes "SupportedObjects=3" ∷ codes "1=0x1000" ∷ codes "2=0x1001" ∷ codes "3=0x1018"
    ∷ codes "[1000]" ∷ codes "DataType=7" ∷ codes "AccessType=ro" ∷ codes "[1001]" ∷ codes "DataType=5" ∷ codes "AccessType=ro"
    ∷ codes "[1018]" ∷ codes "ParameterName=C" ∷ codes "ObjectType=RECORD" ∷ codes "objecttype=record" ∷ codes "[1018sub0]" ∷ codes "ParameterName=D" ∷ codes "DataType=5" ∷ codes "AccessType=ro" ∷ []

abbrev in_a_number : List (List ℕ)
in_a_number = codes "[MandatoryObjects]" ∷ codes "SupportedObjects=3" ∷ codes "1=0x1000" ∷ codes "2=0x1001" ∷ codes "3=0x1018"
    ∷ codes "[1000]" ∷ codes "DataType=7" ∷ codes "AccessType=ro" ∷ codes "[1001]" ∷ codes "DataType=5" ∷ codes "AccessType=ro"
    ∷ codes "[1018]" ∷ codes "ParameterName=C" ∷ codes "ObjectType=9" ∷ codes "" ∷ codes "[1018sub0]" ∷ codes "ParameterName=D" ∷ codes "DataType=5" ∷ codes "AccessType=ro" ∷ []

word_read : mended_in 2 (joined in_a_word) ≡ Some (joined in_a_number)
unfolding mended_in repair_at repair_for line_as type_code assigned digits
word_read = refl

-- objects with a name, a sub-index without one, and an object without a section
abbrev some_entries : List SectionKind
some_entries = Object 0x1000 ∷ Object 0x1001 ∷ Object 0x1018 ∷ SubIndex (record { index = 0x1018; sub = 0 }) ∷ Object 0x1017 ∷ []

names_before : map (λ kind. name_read kind (joined two_faults)) some_entries ≡ Some (codes "A") ∷ Some (codes "B") ∷ Some (codes "C") ∷ None ∷ None ∷ []
names_before = refl

names_after : map (λ kind. name_read kind (joined without_faults)) some_entries ≡ Some (codes "A") ∷ Some (codes "B") ∷ Some (codes "C") ∷ None ∷ None ∷ []
names_after = refl

-- of two sections of an object the first, and of two names in it the first: here its first has none
names_twice : name_read (Object 0x2000) (joined (codes "[2000]" ∷ codes "ParameterName=" ∷ codes "ParameterName=A" ∷ codes "ParameterName=B" ∷ codes "[02000]" ∷ codes "ParameterName=C"
    ∷ codes "[2000]" ∷ codes "ParameterName=D" ∷ [])) ≡ Some (codes "A")
names_twice = refl

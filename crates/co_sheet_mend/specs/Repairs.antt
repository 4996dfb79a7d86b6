-- What comes in place of the lines at fault of a data sheet's text (CiA 306).
use Rattle.std.specs.Prelude.{ℕ, suc, ◌-◌, ◌==◌, nat_le, nat_lt, Bool, true, false, not, ◌&&◌, if◌then◌else◌, List, [], ◌∷◌, ◌++◌, codes, decimal, length, take, Option, Some, None, is_some, option_and_then, unwrap_or, slice_index}
use Rattle.std.specs.List.{filter_map, list_any}
use Rattle.std.specs.Option.{option_map_or}
use Rattle.std.specs.Result.{result_ok}
use Rattle.co_sheet_rows.specs.declared.fault.FaultKind.{FaultKind}
use Rattle.co_sheet_rows.specs.declared.fault.FaultKind.TheVariants as kind
use Rattle.co_sheet_rows.specs.declared.fault.SheetFault.{SheetFault}
use Rattle.co_value.specs.declared.data_type.DataType.TheVariants.{Domain}
use Rattle.co_value.specs.declared.key.Key.{Key}
use Rattle.co_value.specs.Types.{code_of}
use Rattle.co_profile.specs.FixedTypes.{fixed_type_of}
use Rattle.co_sheet_text.specs.declared.section_kind.SectionKind.{SectionKind}
use Rattle.co_sheet_text.specs.declared.section_kind.SectionKind.TheVariants.{MandatoryObjects, Object, SubIndex}
use Rattle.co_sheet_text.specs.Names.{is_list, kind_of, same_kind}
use Rattle.co_sheet_text.specs.LinesAtFault.{emptied}
use Rattle.co_sheet_text.specs.LinesRead.{all_digits}
use Rattle.co_sheet_text.specs.Numerals.{unsigned_number}
use Rattle.co_sheet_text.specs.Text.{Line, same_name}
use Rattle.co_sheet_changes.specs.Groups.{before_sections, property_in, section_in}
use Rattle.co_sheet_changes.specs.Pieces.{assigned}
use Rattle.co_sheet_mend.specs.declared.repair.Repair.{Repair}
use Rattle.co_sheet_mend.specs.declared.repair.Repair.TheVariants.{Emptied, Typed, ReadWrite, Completed, Counted, Numbered}

-- by the kind of the fault
unfoldable pub repair_for : FaultKind → Option Repair
repair_for kind.TooLarge = Some Emptied
repair_for kind.BadLine = Some Emptied
repair_for kind.KeyOutsideSection = Some Emptied
repair_for kind.DuplicateSection = Some Emptied
repair_for kind.DuplicateKey = Some Emptied
repair_for kind.MissingSection = Some Emptied
repair_for kind.ListedTwice = Some Emptied
repair_for kind.BadNumber = Some Emptied
repair_for kind.AmbiguousNumber = Some Emptied
repair_for kind.BadLimits = Some Emptied
repair_for kind.BadDefault = Some Emptied
repair_for kind.CompactForm = Some Emptied
repair_for kind.BadType = Some Typed
repair_for kind.LeftOutType = Some Typed
repair_for kind.BadAccess = Some ReadWrite
repair_for kind.MissingKey = Some Completed
repair_for kind.BadList = Some Counted
repair_for kind.MissingSub0 = Some Numbered
repair_for kind.MissingMandatory = Some Counted
repair_for other = None

-- ---- of a line

-- which of two repairs of a line comes: that with the smaller number
abbrev pub rank : Repair → ℕ
rank Emptied = 0
rank Typed = 1
rank ReadWrite = 2
rank Completed = 3
rank Counted = 4
rank Numbered = 5

abbrev pub stronger : Option Repair → Option Repair → Option Repair
stronger None other = other
stronger (Some one) None = Some one
stronger (Some one) (Some other) = if nat_le (rank one) (rank other) then Some one else Some other

-- what a fault asks for at a line
abbrev pub repair_here : ℕ → SheetFault → Option Repair
repair_here line fault = if fault.line == line then repair_for fault.kind else None

abbrev pub same_repair : Repair → Repair → Bool
same_repair one other = rank one == rank other

-- a fault at a line asks for a repair
abbrev pub asks_for : Repair → ℕ → SheetFault → Bool
asks_for repair line fault = option_map_or (same_repair repair) (repair_here line fault) false

abbrev pub has_repair : List SheetFault → ℕ → Repair → Bool
has_repair faults line repair = list_any (asks_for repair line) faults

abbrev pub first_asked : Bool → Bool → Bool → Bool → Bool → Bool → Option Repair
first_asked empties types writes completes counts numbers =
    if empties then Some Emptied
    else (if types then Some Typed
    else (if writes then Some ReadWrite
    else (if completes then Some Completed else (if counts then Some Counted else (if numbers then Some Numbered else None)))))

-- of several the first of these, whatever the order of the faults
unfoldable pub repair_at : List SheetFault → ℕ → Option Repair
repair_at faults line =
    first_asked (has_repair faults line Emptied) (has_repair faults line Typed) (has_repair faults line ReadWrite)
    (has_repair faults line Completed) (has_repair faults line Counted) (has_repair faults line Numbered)

-- the number that a value is, if it is one
abbrev pub read_number : List ℕ → Option ℕ
read_number value = result_ok (unsigned_number value)

-- a line gives a property of a name
abbrev pub gives : List ℕ → Line → Bool
gives name line = option_map_or (λ given. same_name given.name name) (property_in line) false

-- so does one of the lines up to the next section line
abbrev pub gives_any : List ℕ → List Line → Bool
gives_any name lines = list_any (gives name) (before_sections lines)

-- a carriage return is the last byte of a line
abbrev pub ends_in_return : List ℕ → Bool
ends_in_return bytes = slice_index bytes (length bytes - 1) == 13

-- LF ends a line; after a CR it is CR and LF, since one CR before LF is part of the end
abbrev pub line_end : Bool → List ℕ
line_end return = if return then 13 ∷ 10 ∷ [] else 10 ∷ []

-- a line that is written so that it is read as it is
abbrev pub ended : List ℕ → List ℕ
ended bytes = bytes ++ line_end (ends_in_return bytes)

-- a property that the lines of a section lack
abbrev pub lacking : List ℕ → List ℕ → List Line → List ℕ
lacking name value lines = if gives_any name lines then [] else assigned name value

-- ---- of an entry

-- the entry that a section is about; none where it is another section
abbrev pub key_in : SectionKind → Option Key
key_in (Object index) = Some (record { index = index; sub = 0 })
key_in (SubIndex key) = Some key
key_in other = None

-- and that a line is about, where the line before it is about this one
abbrev pub key_at : Option Key → Line → Option Key
key_at before line = option_map_or (λ name. key_in (kind_of name)) (section_in line) before

-- the type of its values: the one that CiA 301 fixes, else DOMAIN, whose values are bytes
unfoldable pub type_code : Option Key → ℕ
type_code key = code_of (unwrap_or (option_and_then fixed_type_of key) Domain)

abbrev pub is_number : ℕ → Option ℕ → Bool
is_number number read = option_map_or (λ n. n == number) read false

-- a line gives this number
abbrev pub states : ℕ → Line → Bool
states number line = option_map_or (λ given. is_number number (read_number given.value)) (property_in line) false

abbrev pub typed : Option Key → List ℕ
typed key = assigned (codes "DataType") (decimal (type_code key))

abbrev pub lacking_type : Option Key → List Line → List ℕ
lacking_type key lines = if gives_any (codes "DataType") lines then [] else typed key

-- how many lines are looked at for the next section, so that the time stays in proportion to the text
abbrev pub most_looked_at : ℕ
most_looked_at = 32

-- the section that the first section line of lines begins
abbrev pub next_section : List Line → Option SectionKind
next_section [] = None
next_section (line ∷ more) = option_map_or (λ name. Some (kind_of name)) (section_in line) (next_section more)

-- a section is of a sub-index of the object that this entry is of
abbrev pub is_sub_of : Option Key → Option SectionKind → Bool
is_sub_of (Some key) (Some (SubIndex sub)) = sub.index == key.index
is_sub_of key kind = false

-- the object code that a word names of an object with sub-indices (CiA 301, object codes), in digits
abbrev pub code_named : List ℕ → Option (List ℕ)
code_named word =
    if same_name word (codes "ARRAY") then Some (codes "8")
    else (if same_name word (codes "RECORD") then Some (codes "9") else None)

-- and that a line gives in a word, as `ObjectType=RECORD`, where the next section is of a sub-index
abbrev pub code_given : Bool → Line → Option (List ℕ)
code_given has_sub line =
    option_and_then (λ given. if has_sub && same_name given.name (codes "ObjectType") then code_named given.value else None)
    (property_in line)

-- ---- of an object list (CiA 306, lists of objects)

-- an index of more than 16 bits names no object
abbrev pub names_object : List ℕ → Bool
names_object value = not (option_map_or (nat_lt 0xFFFF) (read_number value) false)

-- the object at a place: what comes after a number and `=`
abbrev pub place_value : Line → Option (List ℕ)
place_value line =
    option_and_then (λ given. if all_digits given.name && names_object given.value then Some given.value else None)
    (property_in line)

-- the objects that the lines up to the next section line name
abbrev pub objects_named : List Line → List (List ℕ)
objects_named lines = filter_map place_value (before_sections lines)

abbrev pub numbered_from : ℕ → List (List ℕ) → List ℕ
numbered_from number [] = []
numbered_from number (value ∷ values) = assigned (decimal number) value ++ numbered_from (suc number) values

-- counted, and numbered from 1
unfoldable pub counted_text : List (List ℕ) → List ℕ
counted_text values = assigned (codes "SupportedObjects") (decimal (length values)) ++ numbered_from 1 values

abbrev pub list_text : List Line → List ℕ
list_text lines = counted_text (objects_named lines)

-- ---- what a line becomes, which these lines follow

-- nothing; but of the object type ARRAY or RECORD soon before a section of a sub-index its number, so that
-- the object keeps its sub-indices
abbrev pub dropped : Option Key → Line → List Line → List ℕ
dropped key line more =
    option_map_or (assigned (codes "ObjectType")) (code_given (is_sub_of key (next_section (take most_looked_at more))) line) (ended (emptied line).bytes)

-- A type that is the entry's own is at fault since its object is a DOMAIN: it is dropped. So a
-- section line is at fault where a DOMAIN states no type and CiA 301 fixes another: it becomes a
-- VAR, and its own ObjectType is at fault in the next round.
abbrev pub retyped : Option Key → Line → List ℕ
retyped key line =
    if gives (codes "DataType") line then (if states (type_code key) line then ended [] else typed key)
    else (if is_some (section_in line) then ended line.bytes ++ assigned (codes "ObjectType") (codes "7")
    else ended (emptied line).bytes)

abbrev pub completed : Option Key → Line → List Line → List ℕ
completed key line more = ended line.bytes ++ lacking_type key more ++ lacking (codes "AccessType") (codes "rw") more

-- a section of sub-index 0, which is an UNSIGNED8 (CiA 301, 7.4.7), before that of the object
unfoldable pub sub0_text : List ℕ → List ℕ
sub0_text name = codes "[" ++ name ++ codes "sub0]\nDataType=5\nAccessType=ro\n"

abbrev pub numbered : Line → List ℕ
numbered line = option_map_or sub0_text (section_in line) [] ++ ended line.bytes

unfoldable pub line_as : Option Repair → Option Key → Line → List Line → List ℕ
line_as None key line more = ended line.bytes
line_as (Some Emptied) key line more = dropped key line more
line_as (Some Typed) key line more = retyped key line
line_as (Some ReadWrite) key line more = assigned (codes "AccessType") (codes "rw")
line_as (Some Completed) key line more = completed key line more
line_as (Some Counted) key line more = ended line.bytes ++ list_text more
line_as (Some Numbered) key line more = numbered line

-- ---- of a text

-- whether the lines up to the next section line are those of a list that was counted anew
abbrev pub is_counted : Option Repair → Bool
is_counted repair = option_map_or (same_repair Counted) repair false

-- lines by the repair that each line number has, where the line before is about this entry
abbrev pub mended_lines : (ℕ → Option Repair) → Bool → Option Key → List Line → List ℕ
mended_lines repairs counted key [] = []
mended_lines repairs counted key (line ∷ more) =
    if counted && not (is_some (section_in line)) then ended [] ++ mended_lines repairs true key more
    else line_as (repairs line.number) (key_at key line) line more
    ++ mended_lines repairs (is_counted (repairs line.number)) (key_at key line) more

-- ---- of a text with a fault that is at no line, and so at line 0

-- the three mandatory objects (CiA 301, 7.5.1)
abbrev pub mandatory_objects : List (List ℕ)
mandatory_objects = codes "0x1000" ∷ codes "0x1001" ∷ codes "0x1018" ∷ []

abbrev pub with_mandatory : List Line → List (List ℕ)
with_mandatory lines = objects_named lines ++ mandatory_objects

-- a section of each: where the text has one, the second is at fault in the next round, and so is an
-- object that is listed twice
unfoldable pub mandatory_sections : List ℕ
mandatory_sections =
    codes "[1000]\nDataType=7\nAccessType=ro\n[1001]\nDataType=5\nAccessType=ro\n"
    ++ codes "[1018]\nObjectType=9\n[1018sub0]\nDataType=5\nAccessType=ro\n"

-- a line begins the list of the mandatory objects
abbrev pub begins_mandatory : Line → Bool
begins_mandatory line = option_map_or (λ name. same_kind (kind_of name) MandatoryObjects) (section_in line) false

-- that list counts the three too: its own lines come after them, and are at fault in the next round
abbrev pub listed : Line → List Line → List ℕ
listed line more = ended line.bytes ++ (if begins_mandatory line then counted_text (with_mandatory more) else [])

abbrev pub mandatory_lines : List Line → List ℕ
mandatory_lines [] = mandatory_sections
mandatory_lines (line ∷ more) = listed line more ++ mandatory_lines more

-- a line begins one of the object lists
abbrev pub begins_list : Line → Bool
begins_list line = option_map_or (λ name. is_list (kind_of name)) (section_in line) false

-- a list of the mandatory objects, where the text has another list and not this one; one without a
-- list is no data sheet
abbrev pub begun_list : Option Repair → List Line → List ℕ
begun_list repair lines =
    if is_some repair && list_any begins_list lines then codes "[MandatoryObjects]\nSupportedObjects=0\n" else []

-- lines by these repairs, that of line 0 first: where one of the three is in no list nothing but this
-- is mended
abbrev pub mended_by : (ℕ → Option Repair) → List Line → List ℕ
mended_by repairs lines =
    if is_counted (repairs 0) then mandatory_lines lines
    else mended_lines repairs false None lines ++ begun_list (repairs 0) lines

-- What a sheet has where a finding is (CiA 306-1, structure of an EDS, object lists, object
-- description, device information): its sections as they are read in spite of lines at fault, and
-- the text of the finding's line.
use Rattle.std.specs.Prelude.{ℕ, ◌+◌, ◌-◌, ◌*◌, ◌/◌, ◌%◌, ◌==◌, nat_lt, nat_le, max, fold, Bool, true, false, ◌&&◌, ◌||◌, if◌then◌else◌, not, List, [], ◌∷◌, length, slice_index, drop, find, count_by, codes, Option, Some, None, is_some, is_none, option_and_then, option_map}
use Rattle.std.specs.List.{list_any, list_all, before_first, after_first}
use Rattle.std.specs.Option.{option_map_or, option_or}
use Rattle.std.specs.Result.{result_ok}
use Rattle.co_value.specs.declared.key.Key.{Key}
use Rattle.co_value.specs.Types.{code_of}
use Rattle.co_profile.specs.FixedTypes.{fixed_type_of}
use Rattle.co_sheet_text.specs.declared.section_kind.SectionKind.{SectionKind}
use Rattle.co_sheet_text.specs.declared.section_kind.SectionKind.TheVariants.{DeviceInfo, Object, SubIndex}
use Rattle.co_sheet_text.specs.Names.{is_list, kind_of, number_in}
use Rattle.co_sheet_text.specs.Numerals.{is_number_in, unsigned_number}
use Rattle.co_sheet_text.specs.Properties.{number_at, property_number}
use Rattle.co_sheet_text.specs.Sections.{Property, TextSection, is_bracket, is_equals, property_at, section_at}
use Rattle.co_sheet_text.specs.Text.{same_name, trim}
use Rattle.co_sheet_warnings.specs.Accesses.{fixed_access}
use Rattle.co_sheet_warnings.specs.Types.{standard_type}
use Rattle.co_sheet_text_warnings.specs.Infos.{object_count}
use Rattle.co_sheet_text_warnings.specs.KnownKeys.{key_text}
use Rattle.co_sheet_text_warnings.specs.Lines.{has_other_byte}
use Rattle.co_sheet_warnings.specs.Repeats.{value_in}
use Rattle.co_sheet_text_warnings.specs.declared.known_key.KnownKey.{KnownKey}
use Rattle.conode_lint_text.specs.MeantSections.{meant_section}
use Rattle.conode_lint_text.specs.declared.fact.Fact.TheVariants as fact
use Rattle.conode_lint_text.specs.declared.finding.About.{About}
use Rattle.conode_lint_text.specs.declared.finding.About.TheVariants.{Line, FirstAt, Misspelt, MisspeltBeside, NoSection, CompactPdo, Access, Fact}

-- ---- sections

-- the section that begins at a line
abbrev pub section_on : ℕ → List TextSection → Option TextSection
section_on line sections = find (λ s. s.line == line) sections

-- the section that a line is in: the last that begins before it
abbrev pub last_before : ℕ → Option TextSection → List TextSection → Option TextSection
last_before line last sections =
    fold (λ found s. if nat_lt s.line line then Some s else found) last sections

abbrev pub section_before : ℕ → List TextSection → Option TextSection
section_before line sections = last_before line None sections

-- ---- the key on a line: its name, and the number of its value

abbrev pub key_name : List ℕ → List ℕ
key_name text = if list_any is_equals text then trim (before_first is_equals text) else []

abbrev pub key_number : List ℕ → Option ℕ
key_number text =
    if list_any is_equals text
    then result_ok (unsigned_number (trim (after_first is_equals text))) else None

-- the value on it
abbrev pub key_value : List ℕ → List ℕ
key_value text = if list_any is_equals text then trim (after_first is_equals text) else []

-- ---- object lists

-- a key that is a number up to this one
abbrev pub is_key_to : ℕ → List ℕ → Bool
is_key_to most name = is_number_in 10 name && nat_le (number_in 10 name) most

abbrev pub key_count : ℕ → List Property → ℕ
key_count most properties = count_by (λ k. is_key_to most k.name) properties

-- the key after 1, 2, 3 and so on, as far as they come one after another
abbrev pub is_key_at : ℕ → List ℕ → Bool
is_key_at place name = is_number_in 10 name && (number_in 10 name == place)

abbrev pub next_from : ℕ → List Property → ℕ
next_from first properties =
    fold (λ next k. if is_key_at next k.name then next + 1 else next) first properties

abbrev pub next_key : List Property → ℕ
next_key properties = next_from 1 properties

-- whether a key is there
abbrev pub has_key : ℕ → List Property → Bool
has_key place properties = list_any (λ k. is_key_at place k.name) properties

-- a list that counts so many objects, and has so many keys of them, where one is missing: the first,
-- unless keys come in another order
abbrev pub gap_fact : ℕ → ℕ → List Property → ℕ → About
gap_fact counted has properties next =
    if has_key next properties then Fact (fact.ListCount counted has)
    else Fact (fact.ListGap counted has next)

-- or where an index is too high: the line of the first
abbrev pub is_high : ℕ → Property → Bool
is_high counted k =
    is_key_to counted k.name && option_map_or (λ n. nat_lt 65535 n) (property_number k) false

abbrev pub high_line : ℕ → List Property → Option ℕ
high_line counted properties = option_map (λ k. k.line) (find (is_high counted) properties)

abbrev pub high_fact : ℕ → List Property → About
high_fact counted properties =
    option_map_or (λ line. Fact (fact.HighIndex line)) (high_line counted properties) Line

abbrev pub count_fact : ℕ → List Property → ℕ → About
count_fact counted properties has =
    if nat_lt has counted then gap_fact counted has properties (next_key properties)
    else if nat_lt 65535 counted then Line
    else high_fact counted properties

abbrev pub counted_fact : TextSection → ℕ → About
counted_fact list counted =
    count_fact counted list.properties (key_count counted list.properties)

abbrev pub list_fact : TextSection → About
list_fact list =
    option_map_or (counted_fact list) (number_at (codes "SupportedObjects") list)
    (Fact fact.NoCount)

-- of the BadList of the section at a line
abbrev pub bad_list : ℕ → List TextSection → About
bad_list line sections = option_map_or list_fact (section_on line sections) Line

-- the line where a list names an index
abbrev pub is_number : ℕ → Option ℕ → Bool
is_number n number = option_map_or (λ m. m == n) number false

abbrev pub names_index : ℕ → ℕ → Property → Bool
names_index index counted k = is_number index (property_number k) && is_key_to counted k.name

abbrev pub listed_in : ℕ → ℕ → List Property → Option ℕ
listed_in index counted properties =
    option_map (λ k. k.line) (find (names_index index counted) properties)

abbrev pub list_line : ℕ → TextSection → Option ℕ
list_line index s =
    if is_list s.kind
    then option_and_then (λ counted. listed_in index counted s.properties)
    (number_at (codes "SupportedObjects") s) else None

-- the first line where the lists name an index
abbrev pub listed_line : ℕ → List TextSection → Option ℕ
listed_line index [] = None
listed_line index (s ∷ sections) = option_or (list_line index s) (listed_line index sections)

-- of the ListedTwice of a line
abbrev pub first_listed : List TextSection → ℕ → About
first_listed sections index = option_map_or (λ line. FirstAt line) (listed_line index sections) Line

abbrev pub listed_twice : List TextSection → List ℕ → About
listed_twice sections text = option_map_or (first_listed sections) (key_number text) Line

-- ---- the whole text, where no line is to blame

-- of the TooLarge and of the MissingSection of a line
abbrev pub too_large : ℕ → About
too_large line = if line == 0 then Fact fact.LargeText else Line

-- an index of at most four decimal digits, which were meant in hexadecimal
abbrev pub is_decimal_index : List ℕ → ℕ → Bool
is_decimal_index value index = is_number_in 10 value && nat_le index 9999

-- another index names the section that is missing
abbrev pub section_fact : ℕ → About
section_fact index = if nat_lt index 0x10000 then NoSection index else Line

abbrev pub listed_fact : List ℕ → ℕ → About
listed_fact value index =
    if is_decimal_index value index then Fact (fact.DecimalIndex index) else section_fact index

abbrev pub missing_section : ℕ → List ℕ → About
missing_section line text =
    if line == 0 then Fact fact.NoMandatoryList
    else option_map_or (listed_fact (key_value text)) (key_number text) Line

-- and where CompactPDO isn't 0, it describes PDOs, whose objects have no sections (CiA 306-1, compact
-- storage)
abbrev pub is_compact : TextSection → Bool
is_compact s = option_map_or (λ n. not (n == 0)) (number_at (codes "CompactPDO") s) false

abbrev pub has_compact_pdos : List TextSection → Bool
has_compact_pdos sections = option_map_or is_compact (section_at DeviceInfo sections) false

abbrev pub is_of_pdo : ℕ → Bool
is_of_pdo index = nat_le 0x1400 index && nat_lt index 0x1C00

abbrev pub without_section : List TextSection → About → About
without_section sections (NoSection index) =
    if is_of_pdo index && has_compact_pdos sections then CompactPdo index else NoSection index
without_section sections about = about

abbrev pub missing_section_in : List TextSection → ℕ → List ℕ → About
missing_section_in sections line text = without_section sections (missing_section line text)

-- of the WrongList of a line: an index below 1000h; one of four decimal digits was meant in
-- hexadecimal
abbrev pub low_fact : List ℕ → ℕ → About
low_fact value index =
    if nat_le 0x1000 index then Line
    else if is_decimal_index value index && nat_le 1000 index
    then Fact (fact.LowDecimal index) else Fact (fact.LowIndex index)

abbrev pub wrong_list : List ℕ → About
wrong_list text = option_map_or (low_fact (key_value text)) (key_number text) Line

-- of MissingMandatory: which are listed nowhere
abbrev pub is_listed_nowhere : List TextSection → ℕ → Bool
is_listed_nowhere sections index = is_none (listed_line index sections)

abbrev pub missing_mandatory : List TextSection → About
missing_mandatory sections =
    Fact (fact.NotListed (is_listed_nowhere sections 0x1000) (is_listed_nowhere sections 0x1001)
    (is_listed_nowhere sections 0x1018))

-- ---- keys and sections

-- a value that begins with a quote, or has `;` in it, or else what is said of others
abbrev pub is_quote : ℕ → Bool
is_quote b = (b == 34) || (b == 39)

abbrev pub is_quoted : List ℕ → Bool
is_quoted [] = false
is_quoted (b ∷ value) = is_quote b

abbrev pub is_semicolon : ℕ → Bool
is_semicolon b = b == 59

abbrev pub odd_value : List ℕ → About → About
odd_value value other =
    if is_quoted value then Fact fact.QuotedValue
    else if list_any is_semicolon value then Fact fact.CommentInValue
    else other

-- of the BadNumber of a line: a value may be a sum with `$NODEID`
abbrev pub is_value_key : List ℕ → Bool
is_value_key name = same_name name (codes "DefaultValue") || same_name name (codes "ParameterValue")

-- and ObjectType and DataType may be written as names; the code of a data type by its name (CiA 301,
-- data types)
abbrev pub type_names : List (List ℕ × ℕ)
type_names =
    (codes "BOOLEAN", 0x0001)
    ∷ (codes "INTEGER8", 0x0002)
    ∷ (codes "INTEGER16", 0x0003)
    ∷ (codes "INTEGER24", 0x0010)
    ∷ (codes "INTEGER32", 0x0004)
    ∷ (codes "INTEGER40", 0x0012)
    ∷ (codes "INTEGER48", 0x0013)
    ∷ (codes "INTEGER56", 0x0014)
    ∷ (codes "INTEGER64", 0x0015)
    ∷ (codes "UNSIGNED8", 0x0005)
    ∷ (codes "UNSIGNED16", 0x0006)
    ∷ (codes "UNSIGNED24", 0x0016)
    ∷ (codes "UNSIGNED32", 0x0007)
    ∷ (codes "UNSIGNED40", 0x0018)
    ∷ (codes "UNSIGNED48", 0x0019)
    ∷ (codes "UNSIGNED56", 0x001A)
    ∷ (codes "UNSIGNED64", 0x001B)
    ∷ (codes "REAL32", 0x0008)
    ∷ (codes "REAL64", 0x0011)
    ∷ (codes "VISIBLE_STRING", 0x0009)
    ∷ (codes "OCTET_STRING", 0x000A)
    ∷ (codes "UNICODE_STRING", 0x000B)
    ∷ (codes "TIME_OF_DAY", 0x000C)
    ∷ (codes "TIME_DIFFERENCE", 0x000D)
    ∷ (codes "DOMAIN", 0x000F)
    ∷ []

unfoldable pub named_code : List ℕ → Option ℕ
named_code name = option_map (λ r. r.1) (find (λ r. same_name name r.0) type_names)

abbrev pub type_number : Option ℕ → About
type_number (Some code) = Fact (fact.TypeName code)
type_number None = Fact fact.NoDataType

-- the value of a BOOLEAN as a word
abbrev pub is_truth : List ℕ → Bool
is_truth value = same_name value (codes "TRUE") || same_name value (codes "FALSE")

-- a number in a row of `[2300Value]`, as `1=0x3F800000`
abbrev pub is_number_row : List ℕ → List ℕ → Bool
is_number_row name value = is_number_in 10 name && is_some (result_ok (unsigned_number value))

-- what is said of a value of any other key
abbrev pub value_fact : List ℕ → List ℕ → About
value_fact name value =
    if is_truth value then Fact fact.Truth
    else if is_value_key name then Fact fact.NoValue
    else if is_number_row name value then Fact fact.OtherNumber
    else Line

abbrev pub number_fact : List ℕ → List ℕ → About
number_fact name value =
    if same_name name (codes "ObjectType") then Fact fact.NoObjectType
    else if same_name name (codes "DataType") then type_number (named_code value)
    else if same_name name (codes "PDOMapping") then Fact fact.NoMapping
    else value_fact name value

abbrev pub bad_number : List ℕ → About
bad_number text = odd_value (key_value text) (number_fact (key_name text) (key_value text))

-- of the AmbiguousNumber of a line: one with a digit 8 or 9 is no octal number
abbrev pub is_eight : ℕ → Bool
is_eight b = b == 56

abbrev pub is_nine : ℕ → Bool
is_nine b = b == 57

abbrev pub ambiguous_number : List ℕ → About
ambiguous_number text =
    if list_any is_eight (key_value text) || list_any is_nine (key_value text)
    then Fact fact.NotOctal else Line

-- of the BadLine of a line: one that begins with `[` has no `]`
abbrev pub is_open : List ℕ → Bool
is_open [] = false
is_open (b ∷ text) = b == 91

-- or it has nothing but the end of a file of DOS, or NUL bytes
abbrev pub is_end_byte : ℕ → Bool
is_end_byte b = (b == 0x1A) || (b == 0)

abbrev pub is_end_mark : List ℕ → Bool
is_end_mark text = not (length text == 0) && list_all is_end_byte text

-- or it ends with `]`, and has neither `[` nor `=`: a section line but for its first byte
abbrev pub is_unopened : List ℕ → Bool
is_unopened text =
    (slice_index text (length text - 1) == 93)
    && not (list_any (λ b. b == 91) text || list_any (λ b. b == 61) text)

abbrev pub bad_line : List ℕ → About
bad_line text =
    if is_open (trim text) then Fact fact.OpenSection
    else if is_unopened (trim text) then Fact fact.UnopenedSection
    else if is_end_mark (trim text) then Fact fact.EndMark
    else Line

-- of the BadAccess of a line
abbrev pub bad_access : List ℕ → About
bad_access text = odd_value (key_value text) Line

-- of an object or a sub-index that has DataType or AccessType, or not
abbrev pub key_fact : Bool → Bool → Bool → About
key_fact is_sub false false = Fact (fact.NoTypeOrAccess is_sub)
key_fact is_sub false true = Fact (fact.NoType is_sub)
key_fact is_sub true false = Fact (fact.NoAccess is_sub)
key_fact is_sub true true = Line

abbrev pub is_sub_index : SectionKind → Bool
is_sub_index (SubIndex key) = true
is_sub_index other = false

abbrev pub entry_fact : TextSection → About
entry_fact s =
    key_fact (is_sub_index s.kind) (is_some (property_at (codes "DataType") s))
    (is_some (property_at (codes "AccessType") s))

-- of the MissingKey of the section at a line
abbrev pub missing_key : ℕ → List TextSection → About
missing_key line sections = option_map_or entry_fact (section_on line sections) Line

-- of the BadType of a line: the type that CiA 301 has for the entry, if it has one. Where the line has
-- that type, its object type is at fault. Of an object whose sub-index 1 has such a type too, not its
-- type is at fault, but that it has no sub-indices
abbrev pub entry_key : SectionKind → Option Key
entry_key (Object index) = Some (record { index = index; sub = 0 })
entry_key (SubIndex key) = Some key
entry_key other = None

abbrev pub fixed_code : SectionKind → Option ℕ
fixed_code kind = option_map code_of (option_and_then fixed_type_of (entry_key kind))

abbrev pub has_entries : SectionKind → Bool
has_entries (Object index) = is_some (fixed_type_of (record { index = index; sub = 1 }))
has_entries other = false

abbrev pub entry_type_fact : SectionKind → ℕ → About
entry_type_fact kind code =
    if has_entries kind then Fact fact.ManyEntries else Fact (fact.FixedType code)

abbrev pub other_type : Option ℕ → SectionKind → ℕ → About
other_type given kind code = if is_number code given then Line else entry_type_fact kind code

-- the codes of CiA 301 that aren't supported: the complex types, those of manufacturers and of device
-- profiles (CiA 301, data types), and DEFTYPE and DEFSTRUCT of an object (CiA 301, object codes)
abbrev pub is_other_type : ℕ → Bool
is_other_type code =
    (nat_le 0x20 code && nat_le code 0x25) || (nat_le 0x40 code && nat_le code 0x25F)

abbrev pub is_definition : ℕ → Bool
is_definition code = (code == 5) || (code == 6)

abbrev pub code_fact : (ℕ → Bool) → Option ℕ → About
code_fact test given = if option_map_or test given false then Fact fact.Unsupported else Line

abbrev pub type_fact : Option ℕ → TextSection → About
type_fact given s =
    option_map_or (other_type given s.kind) (fixed_code s.kind) (code_fact is_other_type given)

abbrev pub object_type_fact : Option ℕ → TextSection → About
object_type_fact given s =
    if is_sub_index s.kind then Line else code_fact is_definition given

abbrev pub bad_type : ℕ → List TextSection → List ℕ → About
bad_type line sections text =
    if same_name (key_name text) (codes "DataType")
    then option_map_or (type_fact (key_number text)) (section_before line sections) Line
    else option_map_or (object_type_fact (key_number text)) (section_before line sections) Line

-- of the WrongAccess of a line: the access that CiA 301 has for the entry
abbrev pub access_fact : TextSection → About
access_fact s = option_map_or (λ access. Access access) (fixed_access s.kind) Line

abbrev pub wrong_access : ℕ → List TextSection → About
wrong_access line sections = option_map_or access_fact (section_before line sections) Line

-- of the WrongType of a line: the type that CiA 301 has for the entry
abbrev pub standard_fact : TextSection → About
standard_fact s =
    option_map_or (λ t. Fact (fact.StandardType (code_of t))) (standard_type s.kind) Line

abbrev pub wrong_type : ℕ → List TextSection → About
wrong_type line sections = option_map_or standard_fact (section_before line sections) Line

-- of the ReservedValue of a line: a transmission type of an RPDO or of a TPDO, or the value of 1019h
abbrev pub reserved_fact : SectionKind → About
reserved_fact (SubIndex key) =
    if nat_lt key.index 0x1800 then Fact fact.ReservedOfRpdo else Fact fact.ReservedOfTpdo
reserved_fact kind = Fact fact.ReservedCounter

abbrev pub reserved_value : ℕ → List TextSection → About
reserved_value line sections =
    option_map_or (λ s. reserved_fact s.kind) (section_before line sections) Line

-- of the DuplicateKey of a line
abbrev pub first_key : List ℕ → TextSection → About
first_key name s = option_map_or (λ k. FirstAt k.line) (property_at name s) Line

abbrev pub duplicate_key : ℕ → List TextSection → List ℕ → About
duplicate_key line sections text =
    option_map_or (first_key (key_name text)) (section_before line sections) Line

-- of the DuplicateSection of a line: what is between `[` and `]` is the section's name
abbrev pub section_name : List ℕ → List ℕ
section_name text =
    if list_any is_bracket (drop 1 (trim text))
    then trim (before_first is_bracket (drop 1 (trim text))) else []

abbrev pub section_kind : List ℕ → SectionKind
section_kind text = kind_of (section_name text)

abbrev pub first_section : TextSection → About
first_section s = FirstAt s.line

abbrev pub duplicate_section : List TextSection → List ℕ → About
duplicate_section sections text =
    option_map_or first_section (section_at (section_kind text) sections) Line

-- of the MisspeltSection of a line: the section that is meant, where it is no object's
abbrev pub misspelt_section : List ℕ → About
misspelt_section text =
    option_map_or (λ section. Fact (fact.MeantSection section)) (meant_section (section_name text)) Line

-- of what comes twice: the line of the first, if it is known
abbrev pub first_at : Option ℕ → About
first_at line = option_map_or (λ n. FirstAt n) line Line

-- of the Utf8 of a line: one without a byte above 7Fh begins with a byte order mark
abbrev pub utf8 : List ℕ → About
utf8 text = if has_other_byte text then Line else Fact fact.ByteOrderMark

-- of the MisspeltKey of a line, by the key that is meant: whether it is there too
abbrev pub beside : KnownKey → TextSection → About
beside known s =
    if is_some (property_at (key_text known) s) then MisspeltBeside known else Misspelt known

abbrev pub misspelt_key : ℕ → List TextSection → KnownKey → About
misspelt_key line sections known =
    option_map_or (beside known) (section_before line sections) (Misspelt known)

-- ---- sub-indices

-- the number of an object's sub-index sections
abbrev pub is_sub_index_of : ℕ → SectionKind → Bool
is_sub_index_of index (SubIndex key) = key.index == index
is_sub_index_of index other = false

abbrev pub sub_index_count : ℕ → List TextSection → ℕ
sub_index_count index sections = count_by (λ s. is_sub_index_of index s.kind) sections

-- of the SubNumber of a line
abbrev pub sub_number_fact : Option ℕ → ℕ → About
sub_number_fact (Some number) has = Fact (fact.SubNumber number has)
sub_number_fact None has = Fact (fact.NoSubNumber has)

abbrev pub sub_number_of : List TextSection → Option ℕ → SectionKind → About
sub_number_of sections number (Object index) =
    sub_number_fact number (sub_index_count index sections)
sub_number_of sections number other = Line

abbrev pub sub_number : ℕ → List TextSection → List ℕ → About
sub_number line sections text =
    option_map_or (λ s. sub_number_of sections (key_number text) s.kind)
    (section_before line sections) Line

-- the highest sub-index of an object; FFh describes the object itself, and isn't counted
abbrev pub sub_index_in : ℕ → SectionKind → ℕ
sub_index_in index (SubIndex key) =
    if (key.index == index) && nat_lt key.sub 0xFF then key.sub else 0
sub_index_in index other = 0

abbrev pub highest_from : ℕ → ℕ → List TextSection → ℕ
highest_from index first sections =
    fold (λ highest s. max highest (sub_index_in index s.kind)) first sections

abbrev pub highest_of : ℕ → List TextSection → ℕ
highest_of index sections = highest_from index 0 sections

-- of the SubIndex0 of a line. The sub-index in a section's name has hexadecimal digits: one whose
-- digits are the number in decimal may have been meant so
abbrev pub is_decimal_name : ℕ → ℕ → Bool
is_decimal_name number highest =
    nat_le 0x10 highest && nat_lt (highest / 16) 10 && nat_lt (highest % 16) 10
    && (highest / 16 * 10 + highest % 16 == number)

abbrev pub highest_fact : ℕ → ℕ → About
highest_fact number highest =
    if is_decimal_name number highest then Fact (fact.DecimalName number highest)
    else Fact (fact.SubIndex0 number highest)

abbrev pub sub_index_0_of : List TextSection → Option ℕ → SectionKind → About
sub_index_0_of sections (Some number) (SubIndex key) =
    highest_fact number (highest_of key.index sections)
sub_index_0_of sections number kind = Line

abbrev pub sub_index_0 : ℕ → List TextSection → List ℕ → About
sub_index_0 line sections text =
    option_map_or (λ s. sub_index_0_of sections (key_number text) s.kind)
    (section_before line sections) Line

-- ---- file information and device information

-- of the FileInfoKeys and the DeviceInfoKeys of a line, which is 0 where there is no such section:
-- which keys are missing
abbrev pub file_info : ℕ → List Bool → About
file_info line missing =
    if line == 0 then Fact (fact.NoFileInfo missing) else Fact (fact.FileInfoLacks missing)

abbrev pub device_info : ℕ → List Bool → About
device_info line missing =
    if line == 0 then Fact (fact.NoDeviceInfo missing) else Fact (fact.DeviceInfoLacks missing)

-- of the PdoCount of a line
abbrev pub pdo_fact : List TextSection → List ℕ → ℕ → About
pdo_fact sections name number =
    if same_name name (codes "NrOfRXPDO")
    then Fact (fact.RpdoCount number (object_count 0x1400 0x15FF sections))
    else Fact (fact.TpdoCount number (object_count 0x1800 0x19FF sections))

abbrev pub no_pdo_fact : List TextSection → List ℕ → About
no_pdo_fact sections name =
    if same_name name (codes "NrOfRXPDO")
    then Fact (fact.NoRpdoCount (object_count 0x1400 0x15FF sections))
    else Fact (fact.NoTpdoCount (object_count 0x1800 0x19FF sections))

abbrev pub pdo_count : List TextSection → List ℕ → About
pdo_count sections text =
    option_map_or (pdo_fact sections (key_name text)) (key_number text)
    (no_pdo_fact sections (key_name text))

-- the initial number of a section
abbrev pub initial_number : TextSection → Option ℕ
initial_number s = option_and_then property_number (value_in s)

abbrev pub identity_at : List TextSection → ℕ → Option ℕ
identity_at sections sub =
    option_and_then initial_number
    (section_at (SubIndex (record { index = 0x1018; sub = sub })) sections)

-- of the IdentityNumber of a line, by the sub-index of the identity object
abbrev pub identity_fact : Option ℕ → Option ℕ → About
identity_fact (Some number) (Some other) = Fact (fact.Identity number other)
identity_fact None (Some other) = Fact (fact.NoIdentity other)
identity_fact number None = Line

abbrev pub identity_number : List TextSection → ℕ → List ℕ → About
identity_number sections sub text =
    identity_fact (key_number text) (identity_at sections sub)

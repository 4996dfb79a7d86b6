-- What a sheet has where a finding is, evaluated.
use Rattle.std.proofs.Common.{◌≡◌, ℕ, true, false, List, Some, None, [], ◌∷◌, ◌++◌, codes, map, refl}
use Rattle.std.specs.Prelude.{Bool, is_none, pos, negsuc, replicate}
use Rattle.std.specs.List.{list_all}
use Rattle.std.specs.Fmt.{digits}
use Rattle.co_profile.specs.FixedTypes.{fixed_type_of}
use Rattle.co_sheet_warnings.specs.Types.{standard_types}
use Rattle.co_sheet_warnings.specs.declared.accesses.FixedAccess.TheVariants.{ReadOnly, Readable, ReadWrite}
use Rattle.co_sheet_text_warnings.specs.declared.known_key.KnownKey.TheVariants.{AccessType, DataType, NrOfRxPdo}
use Rattle.co_text.specs.Printed.{digits_text}
use Rattle.co_value.specs.declared.data_type.DataType.TheVariants.{Boolean, Integer8, Integer16, Unsigned8, Unsigned16}
use Rattle.conode_text.specs.Filled.{filled}
use Rattle.co_sheet_text.specs.declared.section_kind.SectionKind.{SectionKind}
use Rattle.co_sheet_text.specs.declared.section_kind.SectionKind.TheVariants.{DeviceInfo, MandatoryObjects, OptionalObjects, ManufacturerObjects, Object, SubIndex}
use Rattle.co_sheet_text.specs.Sections.{Property, TextSection}
use Rattle.conode_lint_text.specs.declared.finding.About.TheVariants.{Line, FirstAt, Misspelt, MisspeltBeside, NoSection, CompactPdo, Access, Fact}
use Rattle.conode_lint_text.specs.declared.fact.Fact.TheVariants as fact
use Rattle.conode_lint_text.specs.declared.meant_section.MeantSection.TheVariants as meant
use Rattle.conode_lint_text.specs.FactTexts.{fact_text, hexadecimal, missing_text, texts_of, words_of}
use Rattle.conode_lint_text.specs.Facts.{ambiguous_number, bad_access, bad_line, bad_list, bad_number, bad_type, count_fact, device_info, duplicate_key, duplicate_section, file_info, first_at, highest_fact, identity_number, list_fact, listed_twice, missing_key, missing_mandatory, missing_section, missing_section_in, misspelt_key, misspelt_section, named_code, pdo_count, reserved_value, sub_index_0, sub_number, too_large, utf8, wrong_access, wrong_list, wrong_type}
use Rattle.conode_lint_text.specs.Bounds.{bad_default, bad_limits}
use Rattle.conode_lint_text.specs.Findings.{about_message, fix_with}

-- ---- the sentences

lists : fact_text fact.NoCount ∷ fact_text (fact.ListGap 7 6 3) ∷ fact_text (fact.ListCount 3 2) ∷ fact_text (fact.HighIndex 12) ∷ []
    ≡ codes "the list has no SupportedObjects" ∷ codes "the list has 6 of the keys 1 to 7 that it counts: key 3 is missing"
    ∷ codes "the list counts 3 objects and has 2 of the keys 1 to 3" ∷ codes "the index of line 12 is above 0xFFFF" ∷ []
unfolding fact_text words_of texts_of filled digits
lists = refl

keys : fact_text (fact.NoType true) ∷ fact_text (fact.NoAccess true) ∷ fact_text (fact.NoTypeOrAccess false) ∷ []
    ≡ codes "the entry has no DataType" ∷ codes "the entry has no AccessType" ∷ codes "the entry has neither DataType nor AccessType" ∷ []
unfolding fact_text words_of texts_of filled
keys = refl

infos : fact_text (fact.NoFileInfo (replicate 10 true)) ∷ fact_text (fact.FileInfoLacks (true ∷ replicate 8 false ++ true ∷ [])) ∷ fact_text (fact.NoDeviceInfo (replicate 20 false ++ true ∷ true ∷ [])) ∷ fact_text (fact.DeviceInfoLacks (replicate 21 false ++ true ∷ [])) ∷ []
    ≡ codes "there is no section [FileInfo]; it has to have FileName, FileVersion, FileRevision, Description, CreationTime, CreationDate, CreatedBy, ModificationTime, ModificationDate, ModifiedBy"
    ∷ codes "FileInfo lacks FileName, ModifiedBy"
    ∷ codes "there is no section [DeviceInfo]; it has to have NrOfTXPDO, LSS_Supported" ∷ codes "DeviceInfo lacks LSS_Supported" ∷ []
unfolding fact_text words_of texts_of missing_text
infos = refl

-- each key at its place
all_missing : fact_text (fact.FileInfoLacks (replicate 10 true)) ∷ fact_text (fact.DeviceInfoLacks (replicate 22 true)) ∷ []
    ≡ codes "FileInfo lacks FileName, FileVersion, FileRevision, Description, CreationTime, CreationDate, CreatedBy, ModificationTime, ModificationDate, ModifiedBy"
    ∷ codes "DeviceInfo lacks VendorName, VendorNumber, ProductName, ProductNumber, RevisionNumber, OrderCode, BaudRate_10, BaudRate_20, BaudRate_50, BaudRate_125, BaudRate_250, BaudRate_500, BaudRate_800, BaudRate_1000, SimpleBootUpMaster, SimpleBootUpSlave, Granularity, DynamicChannelsSupported, GroupMessaging, NrOfRXPDO, NrOfTXPDO, LSS_Supported" ∷ []
unfolding fact_text words_of texts_of missing_text
all_missing = refl

-- which of the keys to add to an object, and to a sub-index
fixes : fix_with (Fact (fact.NoType false)) (codes "f") ∷ fix_with (Fact (fact.NoAccess false)) (codes "f") ∷ fix_with (Fact (fact.NoTypeOrAccess false)) (codes "f") ∷ fix_with (Fact fact.NoCount) (codes "f") ∷ fix_with Line (codes "f") ∷ []
    ≡ codes "add DataType; to an ARRAY or a RECORD add ObjectType=8 or ObjectType=9" ∷ codes "add AccessType; to an ARRAY or a RECORD add ObjectType=8 or ObjectType=9"
    ∷ codes "add DataType and AccessType; to an ARRAY or a RECORD add ObjectType=8 or ObjectType=9" ∷ codes "f" ∷ codes "f" ∷ []
unfolding fix_with
fixes = refl

sub_index_fixes : fix_with (Fact (fact.NoType true)) (codes "f") ∷ fix_with (Fact (fact.NoAccess true)) (codes "f") ∷ fix_with (Fact (fact.NoTypeOrAccess true)) (codes "f") ∷ []
    ≡ codes "add DataType" ∷ codes "add AccessType" ∷ codes "add DataType and AccessType" ∷ []
unfolding fix_with
sub_index_fixes = refl

-- the three of the mandatory objects
mandatory_objects : map (λ missing. fact_text missing) (fact.NotListed true true true ∷ fact.NotListed true true false ∷ fact.NotListed true false true ∷ fact.NotListed false true true ∷ fact.NotListed true false false ∷ fact.NotListed false true false ∷ fact.NotListed false false true ∷ [])
    ≡ codes "no object list names 1000h, 1001h and 1018h" ∷ codes "no object list names 1000h and 1001h" ∷ codes "no object list names 1000h and 1018h" ∷ codes "no object list names 1001h and 1018h"
    ∷ codes "no object list names 1000h" ∷ codes "no object list names 1001h" ∷ codes "no object list names 1018h" ∷ []
unfolding fact_text words_of texts_of filled
mandatory_objects = refl

whole_texts : fact_text fact.NoMandatoryList ∷ fact_text fact.LargeText ∷ fact_text fact.NoValue ∷ [] ≡ codes "there is no section [MandatoryObjects]" ∷ codes "the text has more than 1,048,576 bytes" ∷ codes "the value is no whole number of at most 64 bits" ∷ []
unfolding fact_text words_of texts_of filled
whole_texts = refl

other_fixes : fix_with (Fact (fact.HighIndex 12)) (codes "f") ∷ fix_with (Fact fact.NoMandatoryList) (codes "f") ∷ fix_with (Fact (fact.NotListed true false false)) (codes "f") ∷ fix_with (Fact fact.LargeText) (codes "f") ∷ fix_with (Fact fact.NoValue) (codes "f") ∷ []
    ≡ codes "give an index of at most four hexadecimal digits" ∷ codes "add it, with 1000h, 1001h and 1018h" ∷ codes "list what is missing, with its section" ∷ codes "take out comments and sections that are passed over"
    ∷ codes "write decimal digits, 0x and hexadecimal digits, or a sum as $NODEID+0x180" ∷ []
unfolding fix_with
other_fixes = refl

counts : fact_text (fact.SubNumber 3 4) ∷ fact_text (fact.NoSubNumber 4) ∷ fact_text (fact.SubIndex0 2 4) ∷ []
    ≡ codes "SubNumber is 3, and the number of the object's sub-index sections is 4"
    ∷ codes "SubNumber is no number, and the number of the object's sub-index sections is 4"
    ∷ codes "sub-index 0 is 2, and the highest sub-index of the object is 4" ∷ []
unfolding fact_text words_of texts_of filled digits
counts = refl

device : fact_text (fact.RpdoCount 1 0) ∷ fact_text (fact.TpdoCount 2 4) ∷ fact_text (fact.Identity 5 61858) ∷ fact_text (fact.NoRpdoCount 0) ∷ fact_text (fact.NoTpdoCount 4) ∷ fact_text (fact.NoIdentity 61858) ∷ []
    ≡ codes "NrOfRXPDO is 1, and the number of the sheet's RPDOs is 0" ∷ codes "NrOfTXPDO is 2, and the number of the sheet's TPDOs is 4"
    ∷ codes "the number is 0x5, and that of the identity object is 0xF1A2" ∷ codes "NrOfRXPDO is no number, and the number of the sheet's RPDOs is 0"
    ∷ codes "NrOfTXPDO is no number, and the number of the sheet's TPDOs is 4" ∷ codes "the number can't be read, and that of the identity object is 0xF1A2" ∷ []
unfolding fact_text words_of texts_of hexadecimal filled digits
device = refl

bounds : fact_text (fact.BelowLow 7 (pos 10)) ∷ fact_text (fact.AboveHigh 8 (pos 1000)) ∷ fact_text (fact.LimitsCrossed 9) ∷ fact_text (fact.AboveNegative 10 (negsuc 0)) ∷ fact_text (fact.NegativeHigh 11) ∷ []
    ≡ codes "the value is below the LowLimit of line 7, which is 10" ∷ codes "the value is above the HighLimit of line 8, which is 1000" ∷ codes "HighLimit is below the LowLimit of line 9" ∷ codes "the value is above the HighLimit of line 10, which is a negative number, -1" ∷ codes "HighLimit is a negative number, below the LowLimit of line 11" ∷ []
unfolding fact_text words_of texts_of filled digits
bounds = refl

-- the range of a type, of BOOLEAN and INTEGER16, UNSIGNED8
ranges : map fact_text (fact.ValueOutside Boolean ∷ fact.ValueOutside Integer16 ∷ fact.LimitOutside Unsigned8 ∷ [])
    ≡ codes "the value is outside the type's range, 0 to 1" ∷ codes "the value is outside the type's range, -32768 to 32767" ∷ codes "the limit is outside the type's range, 0 to 255" ∷ []
unfolding fact_text words_of texts_of filled digits
ranges = refl

with_meaning : about_message (FirstAt 40) (codes "m") ∷ about_message (Misspelt NrOfRxPdo) (codes "m") ∷ about_message (Fact (fact.NoType true)) (codes "m") ∷ []
    ≡ codes "m, first at line 40" ∷ codes "the standard has no such key: did you mean NrOfRXPDO" ∷ codes "the entry has no DataType" ∷ []
unfolding about_message fact_text words_of texts_of filled digits
with_meaning = refl

-- ---- the sections of a sheet, each with its line, and their properties at the lines after it

abbrev property : ℕ → List ℕ → List ℕ → Property
property line name value = record { name = name; value = value; line = line }

abbrev section : ℕ → SectionKind → List Property → TextSection
section line kind properties = record { kind = kind; name = []; line = line; properties = properties }

-- the key 2 is missing
abbrev mandatory : TextSection
mandatory = section 1 MandatoryObjects
    (property 2 (codes "SupportedObjects") (codes "3") ∷ property 3 (codes "1") (codes "0x1000")
    ∷ property 4 (codes "3") (codes "0x1001") ∷ property 5 (codes "4") (codes "0x1018") ∷ [])

-- the index isn't one
abbrev optional : TextSection
optional = section 10 OptionalObjects
    (property 11 (codes "supportedobjects") (codes "1") ∷ property 12 (codes "1") (codes "0x10000") ∷ [])

abbrev manufacturer : TextSection
manufacturer = section 20 ManufacturerObjects (property 21 (codes "1") (codes "0x2000") ∷ [])

abbrev sections : List TextSection
sections =
    mandatory ∷ optional ∷ manufacturer
    ∷ section 30 (Object 0x1000) (property 31 (codes "DataType") (codes "7") ∷ [])
    ∷ section 40 (Object 0x1001) (property 41 (codes "accesstype") (codes "ro") ∷ [])
    ∷ section 50 (Object 0x1018) []
    ∷ section 60 (SubIndex (record { index = 0x1018; sub = 0 })) []
    ∷ section 70 (SubIndex (record { index = 0x1018; sub = 1 })) (property 71 (codes "DefaultValue") (codes "0x12") ∷ [])
    ∷ section 80 (SubIndex (record { index = 0x1018; sub = 2 })) (property 81 (codes "DefaultValue") (codes "3") ∷ property 82 (codes "ParameterValue") (codes "4") ∷ [])
    ∷ section 90 (SubIndex (record { index = 0x1018; sub = 255 })) []
    ∷ section 100 (Object 0x1400) [] ∷ section 110 (Object 0x15FF) [] ∷ section 120 (Object 0x1600) [] ∷ section 130 (Object 0x1800) [] ∷ []

-- of a line where no section begins, nothing
bad_lists : bad_list 1 sections ∷ bad_list 10 sections ∷ bad_list 20 sections ∷ bad_list 2 sections ∷ []
    ≡ Fact (fact.ListGap 3 2 2) ∷ Fact (fact.HighIndex 12) ∷ Fact fact.NoCount ∷ Line ∷ []
bad_lists = refl

-- of two high indices the first, and one past the count is none
high_indices : list_fact (section 1 MandatoryObjects
    (property 2 (codes "SupportedObjects") (codes "3") ∷ property 3 (codes "1") (codes "0xFFFF") ∷ property 4 (codes "9") (codes "0x20000") ∷ property 5 (codes "2") (codes "0x10000") ∷ property 6 (codes "3") (codes "0x10001") ∷ []))
    ≡ Fact (fact.HighIndex 5)
high_indices = refl

-- the whole text, and a line
no_line : too_large 0 ∷ too_large 1 ∷ missing_section 0 [] ∷ missing_section 1 (codes "1=0x2000") ∷ [] ≡ Fact fact.LargeText ∷ Line ∷ Fact fact.NoMandatoryList ∷ NoSection 0x2000 ∷ []
no_line = refl

-- of the lists above: 1018h is past the count of the first
listed_nowhere : missing_mandatory sections ∷ missing_mandatory [] ∷ [] ≡ Fact (fact.NotListed false false true) ∷ Fact (fact.NotListed true true true) ∷ []
listed_nowhere = refl

-- 1000h is an UNSIGNED32, 1001h an UNSIGNED8; 1018:01 and 1400h have no type of their own, nor has a line of another key
bad_types : bad_type 35 sections (codes "DataType=5") ∷ bad_type 45 sections (codes " datatype = 7") ∷ bad_type 75 sections (codes "DataType=5") ∷ bad_type 105 sections (codes "DataType=5") ∷ bad_type 35 sections (codes "ObjectType=5") ∷ bad_type 1 sections (codes "DataType=5") ∷ []
    ≡ Fact (fact.FixedType 7) ∷ Fact (fact.FixedType 5) ∷ Line ∷ Line ∷ Fact fact.Unsupported ∷ Line ∷ []
bad_types = refl

-- the codes of CiA 301 that aren't supported, of an entry without a type of its own; DEFTYPE and DEFSTRUCT of an object, not of a sub-index; a line of another key
other_types : map (λ text. bad_type 75 sections text) (codes "DataType=0x1F" ∷ codes "DataType=0x20" ∷ codes "DataType=0x25" ∷ codes "DataType=0x26" ∷ codes "DataType=0x3F" ∷ codes "DataType=0x40" ∷ codes "datatype=0x25F" ∷ codes "DataType=0x260" ∷ codes "DataType=x" ∷ [])
    ≡ Line ∷ Fact fact.Unsupported ∷ Fact fact.Unsupported ∷ Line ∷ Line ∷ Fact fact.Unsupported ∷ Fact fact.Unsupported ∷ Line ∷ Line ∷ []
other_types = refl

definitions : map (λ text. bad_type 105 sections text) (codes "ObjectType=4" ∷ codes "ObjectType=5" ∷ codes "objecttype=0x06" ∷ codes "ObjectType=7" ∷ codes "ObjectType=x" ∷ [])
    ≡ Line ∷ Fact fact.Unsupported ∷ Fact fact.Unsupported ∷ Line ∷ Line ∷ []
definitions = refl

sub_index_definition : bad_type 75 sections (codes "ObjectType=5") ∷ bad_type 1 sections (codes "ObjectType=5") ∷ [] ≡ Line ∷ Line ∷ []
sub_index_definition = refl

-- 1003h and the mappings of PDOs have sub-indices, whose types are fixed too; a sub-index has one type
many_entries : map (λ kind. bad_type 2 (section 1 kind [] ∷ []) (codes "DataType=7")) (Object 0x1003 ∷ Object 0x1600 ∷ Object 0x1BFF ∷ Object 0x1001 ∷ Object 0x1019 ∷ SubIndex (record { index = 0x1003; sub = 0 }) ∷ [])
    ≡ Fact fact.ManyEntries ∷ Fact fact.ManyEntries ∷ Fact fact.ManyEntries ∷ Fact (fact.FixedType 5) ∷ Fact (fact.FixedType 5) ∷ Fact (fact.FixedType 5) ∷ []
many_entries = refl

-- the type is that of CiA 301, so the object type is at fault, as 2 with another type than DOMAIN; a code of no type, and no number
right_types : bad_type 35 sections (codes "DataType = 0x0007") ∷ bad_type 45 sections (codes "DataType=5") ∷ bad_type 35 sections (codes "DataType=0x70") ∷ bad_type 35 sections (codes "DataType=x") ∷ []
    ≡ Line ∷ Line ∷ Fact (fact.FixedType 7) ∷ Fact (fact.FixedType 7) ∷ []
right_types = refl

type_text : fact_text (fact.FixedType 7) ∷ fix_with (Fact (fact.FixedType 7)) (codes "f") ∷ [] ≡ codes "CiA 301 has DataType=0x0007 here" ∷ codes "give that type, or take the object out of its list, unless it is mandatory" ∷ []
unfolding fact_text words_of texts_of fix_with filled digits digits_text
type_text = refl

-- the section that is missing, as sheets name it
section_text : about_message (NoSection 0x1A00) (codes "m") ∷ fix_with (NoSection 0x1A00) (codes "f") ∷ [] ≡ codes "the listed object has no section [1A00]" ∷ codes "add it; or take the object out of its list, unless it is mandatory" ∷ []
unfolding about_message fix_with filled digits digits_text
section_text = refl

-- of objects of PDOs, first and last, where CompactPDO isn't 0; where it is 0, no number or absent; without DeviceInfo
abbrev compact : List ℕ → List TextSection
compact value = section 10 DeviceInfo (property 11 (codes "compactpdo") value ∷ []) ∷ []

of_pdos : map (missing_section_in (compact (codes "0x2F")) 1) (codes "1=0x13FF" ∷ codes "1=0x1400" ∷ codes "1=0x1BFF" ∷ codes "1=0x1C00" ∷ codes "1=5376" ∷ codes "1=x" ∷ [])
    ≡ NoSection 0x13FF ∷ CompactPdo 0x1400 ∷ CompactPdo 0x1BFF ∷ NoSection 0x1C00 ∷ Fact (fact.DecimalIndex 5376) ∷ Line ∷ []
of_pdos = refl

not_compact : map (λ s. missing_section_in s 1 (codes "1=0x1A00")) (compact (codes "1") ∷ compact (codes "0x0") ∷ compact (codes "x") ∷ (section 10 DeviceInfo [] ∷ []) ∷ sections ∷ [] ∷ [])
    ≡ CompactPdo 0x1A00 ∷ NoSection 0x1A00 ∷ NoSection 0x1A00 ∷ NoSection 0x1A00 ∷ NoSection 0x1A00 ∷ NoSection 0x1A00 ∷ []
not_compact = refl

no_list_compact : missing_section_in (compact (codes "1")) 0 [] ≡ Fact fact.NoMandatoryList
no_list_compact = refl

compact_text : about_message (CompactPdo 0x1A00) (codes "m") ∷ fix_with (CompactPdo 0x1A00) (codes "f") ∷ [] ≡ codes "the listed object has no section [1A00]" ∷ codes "try conode adapt, which writes out the PDOs that CompactPDO describes; or add it" ∷ []
unfolding about_message fix_with filled digits digits_text
compact_text = refl

-- the access of the entry whose section the line is in; of an entry without one nothing is said
accesses : map (λ line. wrong_access line (section 10 (Object 0x1000) [] ∷ section 20 (Object 0x1017) [] ∷ section 30 (SubIndex (record { index = 0x1010; sub = 1 })) [] ∷ section 40 (SubIndex (record { index = 0x1003; sub = 0 })) [] ∷ [])) (10 ∷ 11 ∷ 20 ∷ 21 ∷ 31 ∷ 41 ∷ [])
    ≡ Line ∷ Access ReadOnly ∷ Access ReadOnly ∷ Line ∷ Access Readable ∷ Access ReadWrite ∷ []
accesses = refl

-- the type of the entry whose section the line is in; of an entry without one, and before the first section, nothing
types_of_sections : map (λ line. wrong_type line (section 10 (Object 0x1006) [] ∷ section 20 (Object 0x1017) [] ∷ section 30 (SubIndex (record { index = 0x2000; sub = 0 })) [] ∷ section 40 (Object 0x1008) [] ∷ [])) (10 ∷ 11 ∷ 20 ∷ 21 ∷ 31 ∷ 41 ∷ [])
    ≡ Line ∷ Fact (fact.StandardType 7) ∷ Fact (fact.StandardType 7) ∷ Line ∷ Fact (fact.StandardType 5) ∷ Fact (fact.StandardType 9) ∷ []
types_of_sections = refl

-- no entry of these has a type that is fixed, at the ends of each row
abbrev is_free : ℕ → ℕ → Bool
is_free index sub = is_none (fixed_type_of (record { index = index; sub = sub }))

none_fixed : list_all (λ r. is_free r.1 r.3) standard_types ∷ list_all (λ r. is_free r.2 r.4) standard_types ∷ [] ≡ true ∷ true ∷ []
none_fixed = refl

standard_text : fact_text (fact.StandardType 9) ∷ fix_with (Fact (fact.StandardType 9)) (codes "f") ∷ [] ≡ codes "CiA 301 has DataType=0x0009 here" ∷ codes "f" ∷ []
unfolding fact_text words_of texts_of fix_with filled digits digits_text
standard_text = refl

access_texts : map (λ access. about_message (Access access) (codes "m")) (ReadOnly ∷ Readable ∷ ReadWrite ∷ []) ≡ codes "CiA 301 has AccessType=ro or const here" ∷ codes "CiA 301 has AccessType=rw here" ∷ codes "CiA 301 has AccessType=rw here" ∷ []
unfolding about_message
access_texts = refl

-- a digit 8 or 9 anywhere in the value; not in the name of the key
ambiguous_numbers : map ambiguous_number (codes "DefaultValue=08" ∷ codes "DefaultValue = -019" ∷ codes "1=0980" ∷ codes "DefaultValue=$NODEID+080" ∷ codes "DefaultValue=010" ∷ codes "8=017" ∷ codes "9=0" ∷ codes "8" ∷ [])
    ≡ Fact fact.NotOctal ∷ Fact fact.NotOctal ∷ Fact fact.NotOctal ∷ Fact fact.NotOctal ∷ Line ∷ Line ∷ Line ∷ Line ∷ []
ambiguous_numbers = refl

bad_lines : map bad_line (codes "[2001" ∷ codes "  [2001 ; x" ∷ codes "2001]" ∷ codes " 2001sub1] " ∷ codes "]" ∷ codes "x" ∷ [] ∷ [])
    ≡ Fact fact.OpenSection ∷ Fact fact.OpenSection ∷ Fact fact.UnopenedSection ∷ Fact fact.UnopenedSection ∷ Fact fact.UnopenedSection ∷ Line ∷ Line ∷ []
bad_lines = refl

-- another `[`, `=` and more after `]` make it no section line
no_section_lines : map bad_line (codes "20[01]" ∷ codes "=2001]" ∷ codes "2001] x" ∷ codes "2001];" ∷ []) ≡ Line ∷ Line ∷ Line ∷ Line ∷ []
no_section_lines = refl

-- the end of a file of DOS, and NUL bytes, alone on a line
end_marks : map bad_line ((0x1A ∷ []) ∷ (32 ∷ 0x1A ∷ 0x1A ∷ 9 ∷ []) ∷ (0 ∷ 0 ∷ []) ∷ (0x1A ∷ 65 ∷ []) ∷ (0x1B ∷ []) ∷ (1 ∷ []) ∷ [])
    ≡ Fact fact.EndMark ∷ Fact fact.EndMark ∷ Fact fact.EndMark ∷ Line ∷ Line ∷ Line ∷ []
end_marks = refl

other_slip_texts : map fact_text (fact.EndMark ∷ fact.Truth ∷ fact.OtherNumber ∷ [])
    ≡ codes "the line is a DOS end-of-file mark (1Ah) or NUL bytes" ∷ codes "TRUE and FALSE are no numbers" ∷ codes "this is no number of its type" ∷ []
unfolding fact_text words_of texts_of filled
other_slip_texts = refl

other_slip_fixes : map (λ about. fix_with about (codes "f")) (Fact fact.EndMark ∷ Fact fact.Truth ∷ Fact fact.OtherNumber ∷ [])
    ≡ codes "take these bytes out" ∷ codes "write 1 for TRUE, 0 for FALSE" ∷ codes "write a REAL as 1.5, not as its bits; of another type give a number within its range" ∷ []
unfolding fix_with
other_slip_fixes = refl

-- words for 1 and 0; a number that isn't taken in a row of values, where a REAL is one as 1.5
truths : map bad_number (codes "DefaultValue=TRUE" ∷ codes "lowlimit = False" ∷ codes "1=true" ∷ codes "DefaultValue=YES" ∷ codes "PDOMapping=TRUE" ∷ [])
    ≡ Fact fact.Truth ∷ Fact fact.Truth ∷ Fact fact.Truth ∷ Fact fact.NoValue ∷ Fact fact.NoMapping ∷ []
truths = refl

rows_of_values : map bad_number (codes "1=0x3F800000" ∷ codes "12 = 5" ∷ codes "1=x" ∷ codes "x=5" ∷ codes "LowLimit=5" ∷ [])
    ≡ Fact fact.OtherNumber ∷ Fact fact.OtherNumber ∷ Line ∷ Line ∷ Line ∷ []
rows_of_values = refl

slip_texts : map fact_text (fact.NoMapping ∷ fact.NotOctal ∷ fact.OpenSection ∷ fact.UnopenedSection ∷ fact.Unsupported ∷ fact.ManyEntries ∷ fact.DecimalName 10 16 ∷ [])
    ≡ codes "PDOMapping is a number, and this is none" ∷ codes "a leading zero means octal, which has no digits 8 and 9" ∷ codes "the section line has no `]`" ∷ codes "the section line has no `[`" ∷ codes "CiA 301 defines this code, but it isn't supported"
    ∷ codes "CiA 301 has an object with sub-indices here" ∷ codes "sub-index 0 is 10, and the highest sub-index of the object is 16: the name sub10 is hexadecimal" ∷ []
unfolding fact_text words_of texts_of filled digits
slip_texts = refl

slip_fixes : map (λ about. fix_with about (codes "f")) (Fact fact.NoMapping ∷ Fact fact.NotOctal ∷ Fact fact.OpenSection ∷ Fact fact.UnopenedSection ∷ Fact fact.Unsupported ∷ Fact fact.ManyEntries ∷ Fact (fact.DecimalName 10 16) ∷ Fact (fact.SubIndex0 10 16) ∷ [])
    ≡ codes "write 1 if the entry may be mapped into a PDO, or else 0" ∷ codes "write the number without the zero, or try conode adapt --leading-zeros decimal"
    ∷ codes "put `]` after the name, or take the section out where the sheet has it already; until then its lines aren't read, so a listed object may lack them" ∷ codes "put `[` before the name; until then the section before has its lines, so their keys may come twice there, and a listed object may have no section" ∷ codes "take the object out of its list"
    ∷ codes "describe its sub-indices, with ObjectType=8 of 1003h or ObjectType=9 of a mapping; or take the object out of its list"
    ∷ codes "write the sub-index in hexadecimal in each section's name, as subA for 10; or give the highest sub-index" ∷ codes "f" ∷ []
unfolding fix_with
slip_fixes = refl

bad_numbers : map bad_number (codes " defaultvalue = x" ∷ codes "ParameterValue=x" ∷ codes "LowLimit=x" ∷ codes "objecttype = VAR" ∷ codes "ObjectType=7 ; VAR" ∷ [])
    ≡ Fact fact.NoValue ∷ Fact fact.NoValue ∷ Line ∷ Fact fact.NoObjectType ∷ Fact fact.CommentInValue ∷ []
bad_numbers = refl

-- the name of a data type, in any case of letters, another name, and a name at another key
type_names : map bad_number (codes "DataType=UNSIGNED8" ∷ codes " datatype = Real64 " ∷ codes "DataType=BYTE" ∷ codes "PDOMapping=UNSIGNED8" ∷ [])
    ≡ Fact (fact.TypeName 5) ∷ Fact (fact.TypeName 0x11) ∷ Fact fact.NoDataType ∷ Fact fact.NoMapping ∷ []
unfolding named_code
type_names = refl

type_codes : map named_code (codes "BOOLEAN" ∷ codes "INTEGER8" ∷ codes "INTEGER16" ∷ codes "INTEGER24" ∷ codes "INTEGER32" ∷ codes "INTEGER40" ∷ codes "INTEGER48" ∷ codes "INTEGER56" ∷ codes "INTEGER64" ∷ codes "UNSIGNED8" ∷ codes "UNSIGNED16" ∷ codes "UNSIGNED24" ∷ codes "UNSIGNED32" ∷ codes "UNSIGNED40" ∷ codes "UNSIGNED48" ∷ codes "UNSIGNED56" ∷ codes "UNSIGNED64" ∷ codes "REAL32" ∷ codes "REAL64" ∷ codes "VISIBLE_STRING" ∷ codes "OCTET_STRING" ∷ codes "UNICODE_STRING" ∷ codes "TIME_OF_DAY" ∷ codes "TIME_DIFFERENCE" ∷ codes "DOMAIN" ∷ codes "UNSIGNED" ∷ codes "UNSIGNED9" ∷ codes "TIME" ∷ [])
    ≡ Some 0x01 ∷ Some 0x02 ∷ Some 0x03 ∷ Some 0x10 ∷ Some 0x04 ∷ Some 0x12 ∷ Some 0x13 ∷ Some 0x14 ∷ Some 0x15 ∷ Some 0x05 ∷ Some 0x06 ∷ Some 0x16 ∷ Some 0x07 ∷ Some 0x18 ∷ Some 0x19 ∷ Some 0x1A ∷ Some 0x1B ∷ Some 0x08 ∷ Some 0x11 ∷ Some 0x09 ∷ Some 0x0A ∷ Some 0x0B ∷ Some 0x0C ∷ Some 0x0D ∷ Some 0x0F ∷ None ∷ None ∷ None ∷ []
unfolding named_code
type_codes = refl

-- of the last RPDO and of the first TPDO; of 1019h, which has no sub-indices; before the first section of none
reserved : map (λ line. reserved_value line (section 10 (SubIndex (record { index = 0x15FF; sub = 2 })) [] ∷ section 20 (SubIndex (record { index = 0x1800; sub = 2 })) [] ∷ section 30 (Object 0x1019) [] ∷ [])) (10 ∷ 11 ∷ 21 ∷ 31 ∷ [])
    ≡ Line ∷ Fact fact.ReservedOfRpdo ∷ Fact fact.ReservedOfTpdo ∷ Fact fact.ReservedCounter ∷ []
reserved = refl

reserved_texts : map fact_text (fact.ReservedOfRpdo ∷ fact.ReservedOfTpdo ∷ fact.ReservedCounter ∷ fact.NoDataType ∷ fact.TypeName 5 ∷ [])
    ≡ codes "CiA 301 reserves this transmission type of an RPDO" ∷ codes "CiA 301 reserves this transmission type of a TPDO" ∷ codes "CiA 301 reserves this synchronous counter overflow value"
    ∷ codes "DataType is a number, and this is none" ∷ codes "DataType is a number: this name's is 0x0005" ∷ []
unfolding fact_text words_of texts_of filled digits digits_text
reserved_texts = refl

reserved_fixes : map (λ about. fix_with about (codes "f")) (Fact fact.ReservedOfRpdo ∷ Fact fact.ReservedOfTpdo ∷ Fact fact.ReservedCounter ∷ Fact fact.NoDataType ∷ Fact (fact.TypeName 5) ∷ Fact (fact.FileInfoLacks (true ∷ [])) ∷ Fact (fact.DeviceInfoLacks (true ∷ [])) ∷ Fact (fact.NoFileInfo (true ∷ [])) ∷ [])
    ≡ codes "give 0 to 240, 254 or 255" ∷ codes "give 0 to 240, or from 252 on" ∷ codes "give 0, or 2 to 240" ∷ codes "f" ∷ codes "write that number"
    ∷ codes "add the missing keys, each with a value: one without it counts as missing" ∷ codes "add the missing keys, each with a value: one without it counts as missing" ∷ codes "f" ∷ []
unfolding fix_with
reserved_fixes = refl

-- quotes come first, and `;` may be anywhere in the value; before `=` it is none
odd_values : map bad_number (codes "DataType=7 ; x" ∷ codes "DataType=7;" ∷ codes "DataType = \"7\"" ∷ codes "DataType='7' ; x" ∷ codes "DefaultValue=5;6" ∷ codes "Data;Type=x" ∷ codes "DataType=" ∷ [])
    ≡ Fact fact.CommentInValue ∷ Fact fact.CommentInValue ∷ Fact fact.QuotedValue ∷ Fact fact.QuotedValue ∷ Fact fact.CommentInValue ∷ Line ∷ Fact fact.NoDataType ∷ []
unfolding named_code
odd_values = refl

odd_accesses : map bad_access (codes "AccessType=ro ; x" ∷ codes "AccessType=\"ro\"" ∷ codes "AccessType=Read" ∷ []) ≡ Fact fact.CommentInValue ∷ Fact fact.QuotedValue ∷ Line ∷ []
odd_accesses = refl

-- of at most four decimal digits an index may have been meant in hexadecimal
decimal_indices : map (missing_section 1) (codes "1=6110" ∷ codes "1=9999" ∷ codes "1=10000" ∷ codes "1=0x6110" ∷ codes "1=0xFFFF" ∷ codes "1=0x10000" ∷ codes "1=x" ∷ [])
    ≡ Fact (fact.DecimalIndex 6110) ∷ Fact (fact.DecimalIndex 9999) ∷ NoSection 10000 ∷ NoSection 0x6110 ∷ NoSection 0xFFFF ∷ Line ∷ Line ∷ []
decimal_indices = refl

low_indices : map wrong_list (codes "1=1008" ∷ codes "1=1000" ∷ codes "1=999" ∷ codes "1=4095" ∷ codes "1=4096" ∷ codes "1=0xFFF" ∷ codes "1=0x1000" ∷ codes "1=x" ∷ [])
    ≡ Fact (fact.LowDecimal 1008) ∷ Fact (fact.LowDecimal 1000) ∷ Fact (fact.LowIndex 999) ∷ Fact (fact.LowDecimal 4095) ∷ Line ∷ Fact (fact.LowIndex 0xFFF) ∷ Line ∷ Line ∷ []
low_indices = refl

listed_texts : map fact_text (fact.DecimalIndex 6110 ∷ fact.LowDecimal 1008 ∷ fact.LowIndex 5 ∷ [])
    ≡ codes "the listed object 0x17DE has no section: 6110 is decimal, 0x6110 is hexadecimal" ∷ codes "0x3F0 is below 0x1000, so it isn't read: 1008 is decimal, 0x1008 is hexadecimal" ∷ codes "0x5 is below 0x1000, so it isn't read" ∷ []
unfolding fact_text words_of texts_of hexadecimal filled digits
listed_texts = refl

-- a line without a byte above 7Fh
marks : map utf8 (codes "a" ∷ (0x7F ∷ []) ∷ (0xC3 ∷ 0xA4 ∷ []) ∷ []) ≡ Fact fact.ByteOrderMark ∷ Fact fact.ByteOrderMark ∷ Line ∷ []
marks = refl

odd_texts : map fact_text (fact.CommentInValue ∷ fact.QuotedValue ∷ fact.NoPairs ∷ fact.ByteOrderMark ∷ fact.NoObjectType ∷ [])
    ≡ codes "`;` begins a comment only at the beginning of a line, so it belongs to the value" ∷ codes "the value is in quotes, which belong to it" ∷ codes "an OCTET_STRING is pairs of hexadecimal digits"
    ∷ codes "the text begins with a byte order mark of UTF-8, which older tools read as characters" ∷ codes "ObjectType is a number, and this is none" ∷ []
unfolding fact_text words_of texts_of filled
odd_texts = refl

odd_fixes : map (λ about. fix_with about (codes "f")) (Fact fact.NoObjectType ∷ Fact fact.CommentInValue ∷ Fact fact.QuotedValue ∷ Fact fact.NoPairs ∷ Fact fact.ByteOrderMark ∷ Fact (fact.DecimalIndex 6110) ∷ Fact (fact.LowDecimal 1008) ∷ Fact (fact.LowIndex 5) ∷ MisspeltBeside NrOfRxPdo ∷ Misspelt NrOfRxPdo ∷ [])
    ≡ codes "write 0x7 for a VAR, 0x8 for an ARRAY, 0x9 for a RECORD, 0x2 for a DOMAIN" ∷ codes "put the comment on a line of its own" ∷ codes "take the quotes out" ∷ codes "write pairs of hexadecimal digits without blanks, as 00A1FF" ∷ codes "save it without the mark" ∷ codes "write the index in hexadecimal, after 0x; or add the section"
    ∷ codes "write the index in hexadecimal, after 0x" ∷ codes "take it out of the list" ∷ codes "take it out" ∷ codes "f" ∷ []
unfolding fix_with
odd_fixes = refl

-- of a name that is one slip away from one of the standard; not of one like that of a sub-index
meant_sections : map misspelt_section (codes "[FileInf]" ∷ codes " [deviceinf] ; x" ∷ codes "[DummyUsages]" ∷ codes "[DeviceComisioning]" ∷ codes "[DeviceCommissionin]" ∷ codes "[MandatoryObject]" ∷ codes "[OptionalObject]" ∷ codes "[ManufacturersObjects]" ∷ codes "[1018.1]" ∷ codes "[" ∷ [])
    ≡ Fact (fact.MeantSection meant.FileInfo) ∷ Fact (fact.MeantSection meant.DeviceInfo) ∷ Fact (fact.MeantSection meant.DummyUsage) ∷ Fact (fact.MeantSection meant.DeviceComissioning) ∷ Fact (fact.MeantSection meant.DeviceCommissioning)
    ∷ Fact (fact.MeantSection meant.MandatoryObjects) ∷ Fact (fact.MeantSection meant.OptionalObjects) ∷ Fact (fact.MeantSection meant.ManufacturerObjects) ∷ Line ∷ Line ∷ []
meant_sections = refl

meant_words : fact_text (fact.MeantSection meant.DeviceInfo) ≡ codes "nothing reads a section of this name: did you mean [DeviceInfo]"
unfolding fact_text words_of texts_of filled
meant_words = refl

-- 2, 1 and then 4: the key after them isn't known from their order
other_order : list_fact (section 1 MandatoryObjects
    (property 2 (codes "SupportedObjects") (codes "4") ∷ property 3 (codes "2") (codes "0x1000") ∷ property 4 (codes "1") (codes "0x1001") ∷ property 5 (codes "4") (codes "0x1018") ∷ []))
    ≡ Fact (fact.ListCount 4 3)
other_order = refl

-- more than 65,535 objects are too many, though each has its key
too_many : count_fact 65536 [] 65536 ≡ Line
too_many = refl

missing_keys : missing_key 30 sections ∷ missing_key 40 sections ∷ missing_key 50 sections ∷ missing_key 60 sections ∷ missing_key 31 sections ∷ []
    ≡ Fact (fact.NoAccess false) ∷ Fact (fact.NoType false) ∷ Fact (fact.NoTypeOrAccess false) ∷ Fact (fact.NoTypeOrAccess true) ∷ Line ∷ []
missing_keys = refl

-- in the section that the line is in; in any case of letters
duplicate_keys : duplicate_key 35 sections (codes " datatype = 8") ∷ duplicate_key 45 sections (codes "AccessType=rw") ∷ duplicate_key 45 sections (codes "DataType=7") ∷ []
    ≡ FirstAt 31 ∷ FirstAt 41 ∷ Line ∷ []
duplicate_keys = refl

-- the key that is meant is there too, in the section that the line is in
besides : misspelt_key 35 sections DataType ∷ misspelt_key 45 sections DataType ∷ misspelt_key 45 sections AccessType ∷ misspelt_key 1 sections DataType ∷ []
    ≡ MisspeltBeside DataType ∷ Misspelt DataType ∷ MisspeltBeside AccessType ∷ Misspelt DataType ∷ []
besides = refl

beside_text : about_message (MisspeltBeside NrOfRxPdo) (codes "m") ≡ codes "the standard has no such key: did you mean NrOfRXPDO, which is there too"
unfolding about_message filled
beside_text = refl

-- in any spelling of the index
duplicate_sections : duplicate_section sections (codes "[1018]") ∷ duplicate_section sections (codes " [ 1018SUB01 ] ; again") ∷ duplicate_section sections (codes "[2000]") ∷ []
    ≡ FirstAt 50 ∷ FirstAt 70 ∷ Line ∷ []
duplicate_sections = refl

-- the key 4 of the first list is past its count, and the third list has none
listed : listed_twice sections (codes "5=4096") ∷ listed_twice sections (codes "5=0x1001") ∷ listed_twice sections (codes "5=0x1018") ∷ listed_twice sections (codes "5=0x2000") ∷ []
    ≡ FirstAt 3 ∷ FirstAt 4 ∷ Line ∷ Line ∷ []
listed = refl

-- 1018h has four sub-index sections; of those FFh isn't counted as the highest
sub_indices : sub_number 55 sections (codes "SubNumber=3") ∷ sub_number 55 sections (codes "SubNumber=x") ∷ sub_number 65 sections (codes "SubNumber=3") ∷ sub_index_0 65 sections (codes "DefaultValue=4") ∷ []
    ≡ Fact (fact.SubNumber 3 4) ∷ Fact (fact.NoSubNumber 4) ∷ Line ∷ Fact (fact.SubIndex0 4 2) ∷ []
sub_indices = refl

-- 10h and 99h have the decimal digits of 10 and 99; 9 isn't sub-index 10h, nor is 1Ah of any number
decimal_names : map (λ n. highest_fact n 0x10) (9 ∷ 10 ∷ 11 ∷ 16 ∷ []) ≡ Fact (fact.SubIndex0 9 16) ∷ Fact (fact.DecimalName 10 16) ∷ Fact (fact.SubIndex0 11 16) ∷ Fact (fact.SubIndex0 16 16) ∷ []
decimal_names = refl

other_names : highest_fact 99 0x99 ∷ highest_fact 12 0x12 ∷ highest_fact 20 0x1A ∷ highest_fact 100 0xA0 ∷ highest_fact 1 9 ∷ highest_fact 0 0 ∷ []
    ≡ Fact (fact.DecimalName 99 0x99) ∷ Fact (fact.DecimalName 12 0x12) ∷ Fact (fact.SubIndex0 20 0x1A) ∷ Fact (fact.SubIndex0 100 0xA0) ∷ Fact (fact.SubIndex0 1 9) ∷ Fact (fact.SubIndex0 0 0) ∷ []
other_names = refl

-- sections named sub1 and sub10 in decimal
decimal_sub : sub_index_0 2 (section 1 (SubIndex (record { index = 0x2005; sub = 0 })) [] ∷ section 9 (SubIndex (record { index = 0x2005; sub = 1 })) [] ∷ section 20 (SubIndex (record { index = 0x2005; sub = 16 })) [] ∷ []) (codes "DefaultValue=10")
    ≡ Fact (fact.DecimalName 10 16)
decimal_sub = refl

-- 1400h and 15FFh; 1800h
pdo_counts : pdo_count sections (codes "NrOfRxPdo=3") ∷ pdo_count sections (codes "NrOfTXPDO = 0x10") ∷ pdo_count sections (codes "NrOfTXPDO=4 ; four") ∷ pdo_count sections (codes "nrofrxpdo=08") ∷ []
    ≡ Fact (fact.RpdoCount 3 2) ∷ Fact (fact.TpdoCount 16 1) ∷ Fact (fact.NoTpdoCount 1) ∷ Fact (fact.NoRpdoCount 2) ∷ []
pdo_counts = refl

infos_at : file_info 0 (true ∷ []) ∷ file_info 1 (true ∷ []) ∷ device_info 0 (true ∷ []) ∷ device_info 1 (true ∷ []) ∷ []
    ≡ Fact (fact.NoFileInfo (true ∷ [])) ∷ Fact (fact.FileInfoLacks (true ∷ [])) ∷ Fact (fact.NoDeviceInfo (true ∷ [])) ∷ Fact (fact.DeviceInfoLacks (true ∷ [])) ∷ []
infos_at = refl

-- DefaultValue, ParameterValue before it, and a sub-index that isn't there
identities : identity_number sections 1 (codes "VendorNumber=1") ∷ identity_number sections 2 (codes "productnumber=1") ∷ identity_number sections 3 (codes "RevisionNumber=1") ∷ identity_number sections 1 (codes "VendorNumber=x") ∷ identity_number sections 3 (codes "RevisionNumber=x") ∷ []
    ≡ Fact (fact.Identity 1 0x12) ∷ Fact (fact.Identity 1 4) ∷ Line ∷ Fact (fact.NoIdentity 0x12) ∷ Line ∷ []
identities = refl

first_of_two : first_at (Some 7) ∷ first_at None ∷ [] ≡ FirstAt 7 ∷ Line ∷ []
first_of_two = refl

-- ---- limits, of an UNSIGNED16 of 10 to 1000, and of an INTEGER8 of -2 to 2, whose hexadecimal numbers are two's complement

abbrev limited : List TextSection
limited =
    section 1 (Object 0x2000) (property 2 (codes "DataType") (codes "6") ∷ property 3 (codes "lowlimit") (codes "10") ∷ property 4 (codes "HighLimit") (codes "0x3E8") ∷ [])
    ∷ section 11 (Object 0x2001) (property 12 (codes "DataType") (codes "2") ∷ property 13 (codes "LowLimit") (codes "0xFE") ∷ property 14 (codes "HighLimit") (codes "2") ∷ [])
    ∷ section 21 (Object 0x2002) (property 22 (codes "DataType") (codes "10") ∷ property 23 (codes "LowLimit") (codes "1") ∷ [])
    ∷ section 31 (Object 0x2003) (property 33 (codes "LowLimit") (codes "1") ∷ [])
    ∷ section 40 (Object 0x2004) (property 41 (codes "DataType") (codes "6") ∷ property 42 (codes "LowLimit") (codes "9") ∷ property 43 (codes "HighLimit") (codes "5") ∷ []) ∷ []

defaults : bad_default 5 limited (codes "DefaultValue=9") ∷ bad_default 5 limited (codes "DefaultValue=10") ∷ bad_default 5 limited (codes "ParameterValue = 1000") ∷ bad_default 5 limited (codes "DefaultValue= 1001") ∷ bad_default 5 limited (codes "DefaultValue=$NODEID+2") ∷ bad_default 5 limited (codes "DefaultValue=x") ∷ bad_default 5 limited (codes "DefaultValue") ∷ []
    ≡ Fact (fact.BelowLow 3 (pos 10)) ∷ Line ∷ Line ∷ Fact (fact.AboveHigh 4 (pos 1000)) ∷ Line ∷ Line ∷ Line ∷ []
defaults = refl

signed_defaults : bad_default 15 limited (codes "DefaultValue=0xFD") ∷ bad_default 15 limited (codes "DefaultValue=-2") ∷ bad_default 15 limited (codes "DefaultValue=3") ∷ []
    ≡ Fact (fact.BelowLow 13 (negsuc 1)) ∷ Line ∷ Fact (fact.AboveHigh 14 (pos 2)) ∷ []
signed_defaults = refl

-- a value outside the type; above a HighLimit that is below LowLimit, and so is itself at fault
odd_defaults : bad_default 5 limited (codes "DefaultValue=65535") ∷ bad_default 5 limited (codes "DefaultValue=65536") ∷ bad_default 5 limited (codes "DefaultValue=-1") ∷ bad_default 45 limited (codes "DefaultValue=7") ∷ []
    ≡ Fact (fact.AboveHigh 4 (pos 1000)) ∷ Fact (fact.ValueOutside Unsigned16) ∷ Fact (fact.ValueOutside Unsigned16) ∷ Fact (fact.BelowLow 42 (pos 9)) ∷ []
odd_defaults = refl

-- a LowLimit outside UNSIGNED16 is itself at fault, so it is named only where HighLimit isn't exceeded; of both outside the type HighLimit is named too
abbrev at_limits : List ℕ → List ℕ → List TextSection
at_limits low high = section 1 (Object 0x2000) (property 2 (codes "DataType") (codes "6") ∷ property 3 (codes "LowLimit") low ∷ property 4 (codes "HighLimit") high ∷ []) ∷ []

low_at_fault : map (λ value. bad_default 5 (at_limits (codes "65536") (codes "10")) value) (codes "DefaultValue=11" ∷ codes "DefaultValue=10" ∷ codes "DefaultValue=65535" ∷ [])
    ≡ Fact (fact.AboveHigh 4 (pos 10)) ∷ Fact (fact.BelowLow 3 (pos 65536)) ∷ Fact (fact.AboveHigh 4 (pos 10)) ∷ []
low_at_fault = refl

both_at_fault : bad_default 5 (at_limits (codes "65536") (codes "65537")) (codes "DefaultValue=11") ∷ bad_default 5 (at_limits (codes "65536") (codes "-1")) (codes "DefaultValue=11") ∷ []
    ≡ Fact (fact.BelowLow 3 (pos 65536)) ∷ Fact (fact.AboveNegative 4 (negsuc 0)) ∷ []
both_at_fault = refl

-- at the end of the type LowLimit is in order, and comes first; one below the type is exceeded by no value
low_at_end : bad_default 5 (at_limits (codes "65535") (codes "10")) (codes "DefaultValue=11") ∷ bad_default 5 (at_limits (codes "-1") (codes "10")) (codes "DefaultValue=11") ∷ bad_default 5 (at_limits (codes "x") (codes "10")) (codes "DefaultValue=11") ∷ []
    ≡ Fact (fact.BelowLow 3 (pos 65535)) ∷ Fact (fact.AboveHigh 4 (pos 10)) ∷ Fact (fact.AboveHigh 4 (pos 10)) ∷ []
low_at_end = refl

-- the limits of an OCTET_STRING, which has a form, and of an entry without a type, are passed over; before the first section there is none
other_defaults : bad_default 24 limited (codes "DefaultValue=0") ∷ bad_default 34 limited (codes "DefaultValue=0") ∷ bad_default 1 limited (codes "DefaultValue=9") ∷ []
    ≡ Fact fact.NoPairs ∷ Line ∷ Line ∷ []
other_defaults = refl

limits : bad_limits 4 limited (codes "HighLimit=9") ∷ bad_limits 4 limited (codes "HighLimit=10") ∷ bad_limits 3 limited (codes "LowLimit=10") ∷ bad_limits 24 limited (codes "HighLimit=0") ∷ bad_limits 1 limited (codes "HighLimit=0") ∷ []
    ≡ Fact (fact.LimitsCrossed 3) ∷ Line ∷ Line ∷ Line ∷ Line ∷ []
limits = refl

-- a limit outside the type is that alone, whatever the other limit
outside : bad_limits 4 limited (codes "HighLimit=65535") ∷ bad_limits 4 limited (codes "HighLimit=65536") ∷ bad_limits 4 limited (codes "HighLimit=-1") ∷ bad_limits 3 limited (codes "LowLimit=0x10000") ∷ bad_limits 14 limited (codes "HighLimit=128") ∷ bad_limits 4 limited (codes "HighLimit=x") ∷ []
    ≡ Line ∷ Fact (fact.LimitOutside Unsigned16) ∷ Fact (fact.LimitOutside Unsigned16) ∷ Fact (fact.LimitOutside Unsigned16) ∷ Fact (fact.LimitOutside Integer8) ∷ Line ∷ []
outside = refl

-- a HighLimit of an INTEGER8 that is negative in two's complement, beside one that is 0
abbrev negative : List TextSection
negative = map (λ value. section 1 (Object 0x2000) (property 2 (codes "DataType") (codes "2") ∷ property 3 (codes "LowLimit") (codes "-9") ∷ property 4 (codes "HighLimit") value ∷ [])) (codes "0xFF" ∷ codes "0" ∷ [])

negative_defaults : map (λ s. bad_default 5 (s ∷ []) (codes "DefaultValue=5")) negative ≡ Fact (fact.AboveNegative 4 (negsuc 0)) ∷ Fact (fact.AboveHigh 4 (pos 0)) ∷ []
negative_defaults = refl

negative_limits : bad_limits 14 limited (codes "HighLimit=0xFF") ∷ bad_limits 14 limited (codes "HighLimit=0xFD") ∷ bad_limits 4 limited (codes "HighLimit=0") ∷ []
    ≡ Line ∷ Fact (fact.NegativeHigh 13) ∷ Fact (fact.LimitsCrossed 3) ∷ []
negative_limits = refl

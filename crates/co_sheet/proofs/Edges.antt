-- Cases at the edges of the definitions, computed from them.
use Rattle.std.proofs.Common.{◌≡◌, ◌++◌, List, ℕ, [], ◌∷◌, refl, codes, Some, None, Ok, Err}
use Rattle.std.specs.Prelude.{map, flat_map, take, drop, replicate, pos, neg_ℤ, true, false, slice_get}
use Rattle.co_sheet_rows.specs.declared.fault.FaultKind.TheVariants.{TooLarge, BadLine, KeyOutsideSection, DuplicateSection, DuplicateKey, MissingSection, BadNumber, AmbiguousNumber, BadList, ListedTwice, MissingKey, BadType, LeftOutType, BadAccess, BadLimits, BadDefault, MissingSub0, CompactForm, MissingMandatory}
use Rattle.co_sheet_rows.specs.declared.note.NoteKind.TheVariants.{SubNumber, Unlisted}
use Rattle.co_profile.specs.declared.access.Access.TheVariants.{Wo, Rw, Rwr, Rww, Constant}
use Rattle.co_sheet_text.specs.declared.numeral.Numeral.TheVariants.{Decimal, Hexadecimal}
use Rattle.co_sheet_text.specs.declared.numeral.NumeralFault.TheVariants.{Malformed, Ambiguous}
use Rattle.co_value.specs.declared.data_type.DataType.TheVariants.{Integer8, Integer16, Integer64, Unsigned16, Unsigned32, Unsigned64, VisibleString, OctetString, Domain as DomainType}
use Rattle.co_sheet_rows.specs.declared.object.ObjectType.TheVariants.{Var, Record}
use Rattle.co_sheet_text.specs.Text.{lines_of}
use Rattle.co_sheet.specs.Faults.{fault_at}
use Rattle.co_sheet_text.specs.Numerals.{signed_numeral, unsigned_numeral}
use Rattle.co_sheet.specs.Notes.{notes_of, note_at}
use Rattle.co_sheet.specs.Limits.{absent, number, node_id, text, pairs}
use Rattle.co_sheet.specs.Accepted.{first_fault, sections_in}
use Rattle.co_sheet.specs.Content.{rows_of, objects_of, section_names_in, is_dummy, dummies_in, Row}
use Rattle.co_sheet.proofs.Examples.{joined, small, fault_of, replaced, with_lines}

-- the small sheet with one more object, 2000h, and lines in its section
abbrev with_entry : List (List ℕ) → List (List ℕ)
with_entry lines = small ++ (codes "[ManufacturerObjects]" ∷ codes "SupportedObjects=1" ∷ codes "1=0x2000" ∷ codes "[2000]" ∷ []) ++ lines

-- with these lines the text is a data sheet, and this is the row of 2000h
abbrev SaysRow : List (List ℕ) → Row → Type 0
SaysRow lines row = (fault_of (with_entry lines) ≡ None) × (slice_get (rows_of (joined (with_entry lines))) 4 ≡ Some row)

-- ---- lines

-- one byte order mark in front is passed over
mark : first_fault (0xEF ∷ 0xBB ∷ 0xBF ∷ joined small) ≡ None
mark = refl

second_mark : first_fault (0xEF ∷ 0xBB ∷ 0xBF ∷ 0xEF ∷ 0xBB ∷ 0xBF ∷ codes "x=1") ≡ Some (fault_at 1 KeyOutsideSection)
second_mark = refl

-- CR LF ends a line as LF does, and of CR CR LF one CR stays in it
cr_lf : first_fault (flat_map (λ line. line ++ 13 ∷ 10 ∷ []) small) ≡ None
cr_lf = refl

cr_cr_lf : first_fault (flat_map (λ line. line ++ 13 ∷ 13 ∷ 10 ∷ []) small) ≡ Some (fault_at 2 BadNumber)
cr_cr_lf = refl

-- the last line may end without LF; a CR at its end stays in it
last_line : first_fault (joined (take 20 small) ++ codes "AccessType=ro") ≡ None
last_line = refl

last_cr : first_fault (joined (take 20 small) ++ codes "AccessType=ro\r") ≡ Some (fault_at 21 BadAccess)
last_cr = refl

-- CR alone ends no line
lone_cr : first_fault (codes "[a]\rx\n[b") ≡ Some (fault_at 2 BadLine)
lone_cr = refl

line_numbers : map (λ l. l.number) (lines_of (codes "a\n\r\n\nb")) ≡ 1 ∷ 2 ∷ 3 ∷ 4 ∷ []
line_numbers = refl

-- a line has at most 512 bytes, without its end, comments and lines that are passed over too
long_comment : fault_of (with_lines 1 ((59 ∷ replicate 511 97) ∷ [])) ≡ None
long_comment = refl

longer_comment : fault_of (with_lines 1 ((59 ∷ replicate 512 97) ∷ [])) ≡ Some (fault_at 2 TooLarge)
longer_comment = refl

longer_passed_over : fault_of (with_lines 21 (codes "[Comments]" ∷ replicate 513 97 ∷ [])) ≡ Some (fault_at 23 TooLarge)
longer_passed_over = refl

longer_first : fault_of (with_lines 21 (codes "[Comments" ∷ replicate 513 97 ∷ [])) ≡ Some (fault_at 22 BadLine)
longer_first = refl

long_line_with_end : first_fault (0xEF ∷ 0xBB ∷ 0xBF ∷ (59 ∷ replicate 511 97) ++ 13 ∷ 10 ∷ joined small) ≡ None
long_line_with_end = refl

long_last_line : first_fault (joined small ++ (59 ∷ replicate 511 97) ++ 13 ∷ []) ≡ Some (fault_at 22 TooLarge)
long_last_line = refl

-- of two faults in lines the first line's is named
outside_before_long : fault_of (codes "x" ∷ replicate 513 97 ∷ small) ≡ Some (fault_at 1 KeyOutsideSection)
outside_before_long = refl

-- ---- sections and keys

-- blanks at the ends, comments and what follows `]`
blanks_and_comments : fault_of (with_lines 5 (codes "  ; x" ∷ codes "\t [1002]\t; status register" ∷ codes "\tDataType \t=\t 7 " ∷ [])) ≡ None
blanks_and_comments = refl

-- a section line without `]`, as the first line and among lines that are passed over
unclosed_first : fault_of (codes "[MandatoryObjects" ∷ []) ≡ Some (fault_at 1 BadLine)
unclosed_first = refl

unclosed_passed_over : fault_of (with_lines 21 (codes "[Comments]" ∷ codes "Lines=1" ∷ codes "x" ∷ codes "[1002" ∷ [])) ≡ Some (fault_at 25 BadLine)
unclosed_passed_over = refl

-- before the first section any line but a comment
no_equals_outside : fault_of (codes "; x" ∷ codes "x" ∷ small) ≡ Some (fault_at 2 KeyOutsideSection)
no_equals_outside = refl

-- a section that is passed over is one
passed_over_section : fault_of (with_lines 0 (codes "[FileInfo]" ∷ codes "x" ∷ codes "=" ∷ codes "a=1" ∷ codes "a=1" ∷ [])) ≡ None
passed_over_section = refl

-- in a read section a line without `=`, or without a key
no_equals : fault_of (with_lines 9 (codes "x" ∷ [])) ≡ Some (fault_at 10 BadLine)
no_equals = refl

empty_key : fault_of (with_lines 9 (codes " =5" ∷ [])) ≡ Some (fault_at 10 BadLine)
empty_key = refl

empty_key_and_value : fault_of (with_lines 9 (codes "=" ∷ [])) ≡ Some (fault_at 10 BadLine)
empty_key_and_value = refl

-- other keys are passed over
other_keys : fault_of (with_lines 9 (codes "x=1" ∷ codes "x=1" ∷ codes "x=" ∷ codes "ObjFlags=zz" ∷ [])) ≡ None
other_keys = refl

-- names with the same numbers name one section
same_numbers : fault_of (with_lines 21 (codes "[1018SUB01]" ∷ [])) ≡ Some (fault_at 22 DuplicateSection)
same_numbers = refl

same_index : fault_of (with_lines 21 (codes "[5]" ∷ codes "[0005]" ∷ [])) ≡ Some (fault_at 23 DuplicateSection)
same_index = refl

same_list : fault_of (with_lines 21 (codes "[mandatoryobjects]" ∷ [])) ≡ Some (fault_at 22 DuplicateSection)
same_list = refl

-- names of another form, and those of sections that are not read, may occur twice
no_numbers : fault_of (with_lines 21 (codes "[01000]" ∷ codes "[0x1000]" ∷ codes "[1000sub001]" ∷ codes "[1000 sub0]" ∷ codes "[1000sub]" ∷ codes "[]" ∷ codes "[01000]" ∷ codes "[]" ∷ [])) ≡ None
no_numbers = refl

-- an empty value gives no key: it is missing, and no second one
empty_value : fault_of (replaced 7 (codes "DataType=")) ≡ Some (fault_at 6 MissingKey)
empty_value = refl

empty_then_full : fault_of (with_lines 6 (codes "DataType=" ∷ [])) ≡ None
empty_then_full = refl

full_then_empty : fault_of (with_lines 7 (codes "DataType= " ∷ [])) ≡ None
full_then_empty = refl

-- each read key may occur once, also where no check looks at it
key_twice_unused : fault_of (with_lines 18 (codes "SubNumber=1" ∷ codes "SUBNUMBER=1" ∷ [])) ≡ Some (fault_at 20 DuplicateKey)
key_twice_unused = refl

-- ---- object lists

-- a key past the count is read as a number, and otherwise passed over
past_count : fault_of (with_lines 5 (codes "4=0x1000" ∷ codes "00=x" ∷ codes "01=x" ∷ codes "0=x" ∷ codes "99999999999999999999999=1" ∷ [])) ≡ None
past_count = refl

past_count_unread : fault_of (with_lines 5 (codes "99999999999999999999999=x" ∷ [])) ≡ Some (fault_at 6 BadNumber)
past_count_unread = refl

past_count_twice : fault_of (with_lines 5 (codes "99999999999999999999999=1" ∷ codes "99999999999999999999999=1" ∷ [])) ≡ Some (fault_at 7 DuplicateKey)
past_count_twice = refl

list_without_count : fault_of (with_lines 21 (codes "[OptionalObjects]" ∷ codes "1=0x1000" ∷ [])) ≡ Some (fault_at 22 BadList)
list_without_count = refl

empty_list : fault_of (with_lines 21 (codes "[OptionalObjects]" ∷ codes "SupportedObjects=0" ∷ codes "1=0x1000" ∷ [])) ≡ None
empty_list = refl

-- a key of another name is passed over, also twice
other_key_twice : fault_of (with_lines 5 (codes "Foo=x" ∷ codes "Foo=x" ∷ [])) ≡ None
other_key_twice = refl

count_too_large : fault_of (replaced 2 (codes "SupportedObjects=65536")) ≡ Some (fault_at 1 BadList)
count_too_large = refl

index_too_large : fault_of (replaced 4 (codes "2=0x10000")) ≡ Some (fault_at 1 BadList)
index_too_large = refl

-- an index below 1000h is passed over
low_indices : fault_of (take 1 small ++ (codes "SupportedObjects=5" ∷ codes "4=5" ∷ codes "5=0x5" ∷ []) ++ drop 2 small) ≡ None
low_indices = refl

low_index_without_section : fault_of (take 1 small ++ (codes "SupportedObjects=4" ∷ codes "4=0x0FFF" ∷ []) ++ drop 2 small) ≡ None
low_index_without_section = refl

-- the last index
last_index : fault_of (small ++ (codes "[ManufacturerObjects]" ∷ codes "SupportedObjects=1" ∷ codes "1=0xFFFF" ∷ codes "[FFFF]" ∷ codes "DataType=7" ∷ codes "AccessType=rw" ∷ [])) ≡ None
last_index = refl

-- the mandatory objects
no_1000 : fault_of (take 1 small ++ (codes "SupportedObjects=2" ∷ codes "1=0x1001" ∷ codes "2=0x1018" ∷ []) ++ drop 5 small) ≡ Some (fault_at 0 MissingMandatory)
no_1000 = refl

no_1001 : fault_of (take 1 small ++ (codes "SupportedObjects=2" ∷ codes "1=0x1000" ∷ codes "2=0x1018" ∷ []) ++ drop 5 small) ≡ Some (fault_at 0 MissingMandatory)
no_1001 = refl

-- the later line names an index twice, also in another list
twice_across_lists : fault_of ((codes "[OptionalObjects]" ∷ codes "SupportedObjects=1" ∷ codes "1=0x1001" ∷ []) ++ small) ≡ Some (fault_at 7 ListedTwice)
twice_across_lists = refl

missing_mandatory_objects : fault_of ((codes "[OptionalObjects]" ∷ codes "SupportedObjects=x" ∷ [])) ≡ Some (fault_at 0 MissingSection)
missing_mandatory_objects = refl

-- the numbers of DummyUsage and DeviceInfo
unread_dummy : fault_of (with_lines 21 (codes "[DummyUsage]" ∷ codes "Dummy0001=x" ∷ codes "dummy0002=08" ∷ [])) ≡ Some (fault_at 24 AmbiguousNumber)
unread_dummy = refl

unread_compact : fault_of (with_lines 21 (codes "[DeviceInfo]" ∷ codes "Granularity=x" ∷ codes "CompactPDO=-0" ∷ [])) ≡ Some (fault_at 24 BadNumber)
unread_compact = refl

compact_pdo : fault_of (with_lines 21 (codes "[DeviceInfo]" ∷ codes "CompactPDO=1" ∷ [])) ≡ Some (fault_at 23 CompactForm)
compact_pdo = refl

-- ---- objects and entries: with_entry's lines are from line 26 on, in the section of 2000h

-- the sub-index sections of a VAR are passed over
sub_indices_of_var : fault_of (with_lines 21 (codes "[1000sub0]" ∷ codes "ObjectType=99" ∷ codes "[1000sub1]" ∷ codes "DataType=x" ∷ [])) ≡ None
sub_indices_of_var = refl

-- those of an object of no type are looked at
sub_indices_of_no_type : fault_of (replaced 14 (codes "ObjectType=5") ++ (codes "[1018sub2]" ∷ codes "ObjectType=x" ∷ [])) ≡ Some (fault_at 23 BadNumber)
sub_indices_of_no_type = refl

object_type : fault_of (replaced 14 (codes "ObjectType=5")) ≡ Some (fault_at 14 BadType)
object_type = refl

-- a sub-index is a VAR or a DOMAIN
sub_index_object_type : fault_of (with_lines 15 (codes "ObjectType=8" ∷ [])) ≡ Some (fault_at 16 BadType)
sub_index_object_type = refl

-- an object that no list names meets no check
section_unlisted : fault_of (with_lines 21 (codes "[2001]" ∷ codes "ObjectType=x" ∷ codes "CompactSubObj=x" ∷ codes "DataType=8" ∷ [])) ≡ None
section_unlisted = refl

-- the object's line
no_sub_index_0 : fault_of (replaced 15 (codes "[1018sub3]")) ≡ Some (fault_at 13 MissingSub0)
no_sub_index_0 = refl

-- a DOMAIN needs no DataType and no AccessType; its limits and its default are passed over
domain : SaysRow (codes "ObjectType=2" ∷ codes "LowLimit=x" ∷ codes "DefaultValue=x" ∷ []) (record { key = record { index = 0x2000; sub = 0 }; data_type = DomainType; access = Rw; low = None; high = None; default = absent; mappable = false; name = None; line = 25 })
domain = (refl, refl)

domain_type : SaysRow (codes "DataType=15" ∷ codes "AccessType=WO" ∷ []) (record { key = record { index = 0x2000; sub = 0 }; data_type = DomainType; access = Wo; low = None; high = None; default = absent; mappable = false; name = None; line = 25 })
domain_type = (refl, refl)

domain_of_other_type : fault_of (with_entry (codes "ObjectType=2" ∷ codes "DataType=7" ∷ [])) ≡ Some (fault_at 27 BadType)
domain_of_other_type = refl

-- a left-out type at object type 2 is no DOMAIN
domain_left_out : fault_of (with_entry (codes "ObjectType=2" ∷ codes "DataType=8" ∷ [])) ≡ Some (fault_at 27 BadType)
domain_left_out = refl

access_of_domain : fault_of (with_entry (codes "ObjectType=2" ∷ codes "AccessType=x" ∷ [])) ≡ Some (fault_at 27 BadAccess)
access_of_domain = refl

-- a type that is fixed: another one, a left-out one, a DOMAIN's at the line of the section
fixed_type : fault_of (replaced 11 (codes "DataType=6")) ≡ Some (fault_at 11 BadType)
fixed_type = refl

fixed_type_left_out : fault_of (replaced 11 (codes "DataType=8")) ≡ Some (fault_at 11 BadType)
fixed_type_left_out = refl

fixed_type_absent : fault_of (replaced 11 (codes "ObjectType=2")) ≡ Some (fault_at 10 BadType)
fixed_type_absent = refl

missing_access : fault_of (with_entry (codes "DataType=7" ∷ [])) ≡ Some (fault_at 25 MissingKey)
missing_access = refl

unread_mapping : fault_of (with_entry (codes "AccessType=rw" ∷ codes "PDOMapping=x" ∷ codes "DataType=0x07" ∷ [])) ≡ Some (fault_at 27 BadNumber)
unread_mapping = refl

unread_type : fault_of (with_entry (codes "DataType=x" ∷ codes "AccessType=rw" ∷ [])) ≡ Some (fault_at 26 BadNumber)
unread_type = refl

-- each number of a numeric type
unread_low : fault_of (with_entry (codes "DataType=7" ∷ codes "AccessType=rw" ∷ codes "LowLimit=x" ∷ [])) ≡ Some (fault_at 28 BadNumber)
unread_low = refl

unread_high : fault_of (with_entry (codes "DataType=7" ∷ codes "AccessType=rw" ∷ codes "HighLimit=x" ∷ [])) ≡ Some (fault_at 28 BadNumber)
unread_high = refl

unread_default : fault_of (with_entry (codes "DataType=7" ∷ codes "AccessType=rw" ∷ codes "DefaultValue=x" ∷ [])) ≡ Some (fault_at 28 BadNumber)
unread_default = refl

-- the types that are left out, beside REAL32
left_out_types : map (λ code. fault_of (with_entry ((codes "DataType=" ++ code) ∷ codes "AccessType=rw" ∷ []))) (codes "0x0B" ∷ codes "12" ∷ codes "0xD" ∷ codes "17" ∷ []) ≡ replicate 4 (Some (fault_at 26 LeftOutType))
left_out_types = refl

-- the default of a string; its limits are passed over
string : SaysRow (codes "DataType=9" ∷ codes "AccessType=rwr" ∷ codes "LowLimit=x" ∷ codes "HighLimit=-" ∷ codes "DefaultValue=\t a ; b\t" ∷ codes "ParameterName= name " ∷ codes "PDOMapping=0x0" ∷ []) (record { key = record { index = 0x2000; sub = 0 }; data_type = VisibleString; access = Rwr; low = None; high = None; default = text (codes "a ; b"); mappable = false; name = Some (codes "name"); line = 25 })
string = (refl, refl)

octets : SaysRow (codes "DataType=0xA" ∷ codes "AccessType=const" ∷ codes "DefaultValue=0aFF" ∷ codes "PDOMapping=2" ∷ []) (record { key = record { index = 0x2000; sub = 0 }; data_type = OctetString; access = Constant; low = None; high = None; default = pairs (codes "0aFF"); mappable = true; name = None; line = 25 })
octets = (refl, refl)

octets_odd : fault_of (with_entry (codes "DataType=0xA" ∷ codes "AccessType=const" ∷ codes "DefaultValue=0aF" ∷ [])) ≡ Some (fault_at 28 BadDefault)
octets_odd = refl

octets_parted : fault_of (with_entry (codes "DataType=0xA" ∷ codes "AccessType=const" ∷ codes "DefaultValue=0a FF " ∷ [])) ≡ Some (fault_at 28 BadDefault)
octets_parted = refl

-- hexadecimal numbers of a signed type are in two's complement
signed_limits : SaysRow (codes "DataType=3" ∷ codes "AccessType=rww" ∷ codes "LowLimit=0x8000" ∷ codes "HighLimit=0xFFFF" ∷ codes "DefaultValue=-2" ∷ []) (record { key = record { index = 0x2000; sub = 0 }; data_type = Integer16; access = Rww; low = Some (neg_ℤ (pos 32768)); high = Some (neg_ℤ (pos 1)); default = number (neg_ℤ (pos 2)); mappable = false; name = None; line = 25 })
signed_limits = (refl, refl)

own_digits : SaysRow (codes "DataType=6" ∷ codes "AccessType=rw" ∷ codes "LowLimit=-0" ∷ codes "HighLimit=007" ∷ codes "DefaultValue=0x7" ∷ []) (record { key = record { index = 0x2000; sub = 0 }; data_type = Unsigned16; access = Rw; low = Some (pos 0); high = Some (pos 7); default = number (pos 7); mappable = false; name = None; line = 25 })
own_digits = (refl, refl)

-- a limit outside the type's range
limit_above_width : fault_of (with_entry (codes "DataType=2" ∷ codes "AccessType=rw" ∷ codes "LowLimit=0x80" ∷ codes "HighLimit=0x1FF" ∷ [])) ≡ Some (fault_at 29 BadLimits)
limit_above_width = refl

limit_below_type : fault_of (with_entry (codes "DataType=5" ∷ codes "AccessType=rw" ∷ codes "LowLimit=-1" ∷ [])) ≡ Some (fault_at 28 BadLimits)
limit_below_type = refl

-- a low limit above the high one: the line of HighLimit, also where it is before LowLimit
limits_crossed_line : fault_of (with_entry (codes "DataType=5" ∷ codes "AccessType=rw" ∷ codes "HighLimit=1" ∷ codes "LowLimit=2" ∷ [])) ≡ Some (fault_at 28 BadLimits)
limits_crossed_line = refl

-- the smallest line that a check finds
least_line_of_check : fault_of (with_entry (codes "DataType=5" ∷ codes "AccessType=rw" ∷ codes "HighLimit=1" ∷ codes "LowLimit=256" ∷ [])) ≡ Some (fault_at 28 BadLimits)
least_line_of_check = refl

boolean : fault_of (with_entry (codes "DataType=1" ∷ codes "AccessType=rw" ∷ codes "DefaultValue=2" ∷ [])) ≡ Some (fault_at 28 BadDefault)
boolean = refl

default_below_low : fault_of (with_entry (codes "DataType=4" ∷ codes "AccessType=rw" ∷ codes "DefaultValue=0xFFFFFFFF" ∷ codes "LowLimit=0" ∷ [])) ≡ Some (fault_at 28 BadDefault)
default_below_low = refl

-- `$NODEID` is no limit
node_id_in_limit : fault_of (with_entry (codes "DataType=7" ∷ codes "AccessType=rw" ∷ codes "HighLimit=$NODEID" ∷ [])) ≡ Some (fault_at 28 BadNumber)
node_id_in_limit = refl

ambiguous_before_bad : fault_of (with_entry (codes "DataType=7" ∷ codes "AccessType=rw" ∷ codes "HighLimit=010" ∷ codes "LowLimit=x" ∷ [])) ≡ Some (fault_at 28 AmbiguousNumber)
ambiguous_before_bad = refl

-- the node-ID, alone and in a sum
node_id_alone : SaysRow (codes "DataType=7" ∷ codes "AccessType=rw" ∷ codes "DefaultValue=$nodeid" ∷ []) (record { key = record { index = 0x2000; sub = 0 }; data_type = Unsigned32; access = Rw; low = None; high = None; default = node_id 0; mappable = false; name = None; line = 25 })
node_id_alone = (refl, refl)

node_id_plus : SaysRow (codes "DataType=7" ∷ codes "AccessType=rw" ∷ codes "DefaultValue=$NODEID + 0x180" ∷ []) (record { key = record { index = 0x2000; sub = 0 }; data_type = Unsigned32; access = Rw; low = None; high = None; default = node_id 0x180; mappable = false; name = None; line = 25 })
node_id_plus = (refl, refl)

plus_node_id : SaysRow (codes "DataType=2" ∷ codes "AccessType=rw" ∷ codes "DefaultValue=0XfF\t+ $NodeID" ∷ []) (record { key = record { index = 0x2000; sub = 0 }; data_type = Integer8; access = Rw; low = None; high = None; default = node_id 255; mappable = false; name = None; line = 25 })
plus_node_id = (refl, refl)

node_id_ambiguous : fault_of (with_entry (codes "DataType=7" ∷ codes "AccessType=rw" ∷ codes "DefaultValue=$NODEID+010" ∷ [])) ≡ Some (fault_at 28 AmbiguousNumber)
node_id_ambiguous = refl

-- no sums
no_sum_0 : fault_of (with_entry (codes "DataType=7" ∷ codes "AccessType=rw" ∷ codes "DefaultValue=$NODEID+x" ∷ [])) ≡ Some (fault_at 28 BadNumber)
no_sum_0 = refl

no_sum_1 : fault_of (with_entry (codes "DataType=7" ∷ codes "AccessType=rw" ∷ codes "DefaultValue=$NODEID+" ∷ [])) ≡ Some (fault_at 28 BadNumber)
no_sum_1 = refl

no_sum_2 : fault_of (with_entry (codes "DataType=7" ∷ codes "AccessType=rw" ∷ codes "DefaultValue=+$NODEID" ∷ [])) ≡ Some (fault_at 28 BadNumber)
no_sum_2 = refl

no_sum_3 : fault_of (with_entry (codes "DataType=7" ∷ codes "AccessType=rw" ∷ codes "DefaultValue=$NODEID+$NODEID" ∷ [])) ≡ Some (fault_at 28 BadNumber)
no_sum_3 = refl

no_sum_4 : fault_of (with_entry (codes "DataType=7" ∷ codes "AccessType=rw" ∷ codes "DefaultValue=$NODEID+-0" ∷ [])) ≡ Some (fault_at 28 BadNumber)
no_sum_4 = refl

no_sum_6 : fault_of (with_entry (codes "DataType=7" ∷ codes "AccessType=rw" ∷ codes "DefaultValue=1+2" ∷ [])) ≡ Some (fault_at 28 BadNumber)
no_sum_6 = refl

no_sum_7 : fault_of (with_entry (codes "DataType=7" ∷ codes "AccessType=rw" ∷ codes "DefaultValue=$NODEID 5" ∷ [])) ≡ Some (fault_at 28 BadNumber)
no_sum_7 = refl

-- a sum with the node-ID is no number yet, so no limit refuses it
node_id_above_high : SaysRow (codes "DataType=7" ∷ codes "AccessType=rw" ∷ codes "HighLimit=10" ∷ codes "DefaultValue=$NODEID+999" ∷ []) (record { key = record { index = 0x2000; sub = 0 }; data_type = Unsigned32; access = Rw; low = None; high = Some (pos 10); default = node_id 999; mappable = false; name = None; line = 25 })
node_id_above_high = (refl, refl)

-- the ends of the widest types
least_of_64_bits : SaysRow (codes "DataType=0x15" ∷ codes "AccessType=rw" ∷ codes "LowLimit=0x8000000000000000" ∷ codes "HighLimit=0x7FFFFFFFFFFFFFFF" ∷ []) (record { key = record { index = 0x2000; sub = 0 }; data_type = Integer64; access = Rw; low = Some (neg_ℤ (pos 0x8000000000000000)); high = Some (pos 0x7FFFFFFFFFFFFFFF); default = absent; mappable = false; name = None; line = 25 })
least_of_64_bits = (refl, refl)

greatest_of_64_bits : SaysRow (codes "DataType=0x1B" ∷ codes "AccessType=rw" ∷ codes "HighLimit=18446744073709551615" ∷ codes "DefaultValue=0xFFFFFFFFFFFFFFFF" ∷ []) (record { key = record { index = 0x2000; sub = 0 }; data_type = Unsigned64; access = Rw; low = None; high = Some (pos 0xFFFFFFFFFFFFFFFF); default = number (pos 0xFFFFFFFFFFFFFFFF); mappable = false; name = None; line = 25 })
greatest_of_64_bits = (refl, refl)

below_64_bits : fault_of (with_entry (codes "DataType=0x15" ∷ codes "AccessType=rw" ∷ codes "LowLimit=-9223372036854775809" ∷ [])) ≡ Some (fault_at 28 BadLimits)
below_64_bits = refl

above_64_bits : fault_of (with_entry (codes "DataType=0x15" ∷ codes "AccessType=rw" ∷ codes "LowLimit=18446744073709551615" ∷ [])) ≡ Some (fault_at 28 BadLimits)
above_64_bits = refl

-- a LowLimit alone is compared with the type
low_above_type : fault_of (with_entry (codes "DataType=5" ∷ codes "AccessType=rw" ∷ codes "LowLimit=256" ∷ [])) ≡ Some (fault_at 28 BadLimits)
low_above_type = refl

boolean_high : fault_of (with_entry (codes "DataType=1" ∷ codes "AccessType=rw" ∷ codes "HighLimit=2" ∷ [])) ≡ Some (fault_at 28 BadLimits)
boolean_high = refl

boolean_negative : fault_of (with_entry (codes "DataType=1" ∷ codes "AccessType=rw" ∷ codes "HighLimit=-1" ∷ [])) ≡ Some (fault_at 28 BadLimits)
boolean_negative = refl

-- a sub-index may be a DOMAIN too
sub_index_domain : slice_get (rows_of (joined (with_lines 21 (codes "[1018sub2]" ∷ codes "ObjectType=2" ∷ [])))) 4 ≡ Some (record { key = record { index = 0x1018; sub = 2 }; data_type = DomainType; access = Rw; low = None; high = None; default = absent; mappable = false; name = None; line = 22 })
sub_index_domain = refl

sub_index_domain_accepted : fault_of (with_lines 21 (codes "[1018sub2]" ∷ codes "ObjectType=2" ∷ [])) ≡ None
sub_index_domain_accepted = refl

-- what an ARRAY says of its type and access itself is passed over
array_itself : fault_of (with_entry (codes "ObjectType=8" ∷ codes "DataType=x" ∷ codes "AccessType=x" ∷ codes "LowLimit=x" ∷ codes "DefaultValue=x" ∷ codes "PDOMapping=x" ∷ codes "[2000sub0]" ∷ codes "DataType=5" ∷ codes "AccessType=ro" ∷ [])) ≡ None
array_itself = refl

object_type_ambiguous : fault_of (with_entry (codes "ObjectType=010" ∷ [])) ≡ Some (fault_at 26 AmbiguousNumber)
object_type_ambiguous = refl

-- ---- the order of the checks: of two faults that of the earlier check is named, also where it is on a later line

-- the faults of lines come before the checks
order_lines_1 : fault_of (codes "[1000]" ∷ codes "DataType=7" ∷ codes "datatype=7" ∷ []) ≡ Some (fault_at 3 DuplicateKey)
order_lines_1 = refl

order_1_2 : fault_of (codes "[DummyUsage]" ∷ codes "Dummy0002=x" ∷ []) ≡ Some (fault_at 0 MissingSection)
order_1_2 = refl

order_2_3 : fault_of ((codes "[OptionalObjects]" ∷ []) ++ with_lines 5 (codes "4=x" ∷ [])) ≡ Some (fault_at 7 BadNumber)
order_2_3 = refl

order_3_4 : fault_of (replaced 4 (codes "2=0x1000") ++ (codes "[OptionalObjects]" ∷ [])) ≡ Some (fault_at 22 BadList)
order_3_4 = refl

order_4_5 : fault_of (take 2 small ++ (codes "1=0x1234" ∷ codes "2=0x1001" ∷ codes "3=0x1001" ∷ []) ++ drop 5 small) ≡ Some (fault_at 5 ListedTwice)
order_4_5 = refl

order_5_6 : fault_of ((codes "[1000]" ∷ codes "ObjectType=x" ∷ []) ++ take 5 (replaced 5 (codes "3=0x1019")) ++ drop 9 small) ≡ Some (fault_at 7 MissingSection)
order_5_6 = refl

order_6_7 : fault_of (take 6 small ++ (codes "ObjectType=5" ∷ []) ++ drop 6 (take 14 small) ++ (codes "CompactSubObj=x" ∷ []) ++ drop 14 small) ≡ Some (fault_at 16 BadNumber)
order_6_7 = refl

order_7_8 : fault_of (take 6 small ++ (codes "CompactSubObj=2" ∷ []) ++ drop 6 (replaced 14 (codes "ObjectType=5"))) ≡ Some (fault_at 15 BadType)
order_7_8 = refl

order_8_9 : fault_of (take 14 small ++ (codes "[DeviceInfo]" ∷ codes "CompactPDO=1" ∷ [])) ≡ Some (fault_at 16 CompactForm)
order_8_9 = refl

order_9_10 : fault_of (take 7 small ++ drop 8 (take 14 small)) ≡ Some (fault_at 12 MissingSub0)
order_9_10 = refl

order_10_11 : fault_of (take 8 small ++ (codes "PDOMapping=x" ∷ []) ++ drop 9 (take 20 small)) ≡ Some (fault_at 19 MissingKey)
order_10_11 = refl

order_11_12 : fault_of (replaced 7 (codes "DataType=6") ++ (codes "PDOMapping=x" ∷ [])) ≡ Some (fault_at 22 BadNumber)
order_11_12 = refl

order_12_13 : fault_of (take 15 small ++ (codes "DataType=8" ∷ []) ++ drop 16 (replaced 20 (codes "DataType=0x40"))) ≡ Some (fault_at 20 BadType)
order_12_13 = refl

order_13_14 : fault_of (take 7 small ++ (codes "AccessType=rx" ∷ []) ++ drop 8 (replaced 20 (codes "DataType=8"))) ≡ Some (fault_at 20 LeftOutType)
order_13_14 = refl

order_14_15 : fault_of (take 8 small ++ (codes "DefaultValue=x" ∷ []) ++ drop 9 (replaced 21 (codes "AccessType=rx"))) ≡ Some (fault_at 21 BadAccess)
order_14_15 = refl

order_15_16 : fault_of (with_lines 9 (codes "LowLimit=2" ∷ codes "HighLimit=1" ∷ []) ++ (codes "DefaultValue=x" ∷ [])) ≡ Some (fault_at 24 BadNumber)
order_15_16 = refl

order_16_17 : fault_of (replaced 9 (codes "DefaultValue=-1") ++ (codes "LowLimit=2" ∷ codes "HighLimit=1" ∷ [])) ≡ Some (fault_at 23 BadLimits)
order_16_17 = refl

order_17_18 : fault_of (take 1 small ++ (codes "SupportedObjects=2" ∷ []) ++ drop 2 (replaced 9 (codes "DefaultValue=-1"))) ≡ Some (fault_at 9 BadDefault)
order_17_18 = refl

-- ---- numerals

read_zero : signed_numeral (codes "0") ≡ Ok (Decimal (pos 0))
read_zero = refl

read_zeros : signed_numeral (codes "000") ≡ Ok (Decimal (pos 0))
read_zeros = refl

read_seven : signed_numeral (codes "007") ≡ Ok (Decimal (pos 7))
read_seven = refl

read_eight : signed_numeral (codes "008") ≡ Err Ambiguous
read_eight = refl

read_ten : signed_numeral (codes "010") ≡ Err Ambiguous
read_ten = refl

read_minus_ten : signed_numeral (codes "-010") ≡ Err Ambiguous
read_minus_ten = refl

read_minus_seven : signed_numeral (codes "-007") ≡ Ok (Decimal (neg_ℤ (pos 7)))
read_minus_seven = refl

read_minus_zero : signed_numeral (codes "-0") ≡ Ok (Decimal (pos 0))
read_minus_zero = refl

read_minus_hexadecimal : signed_numeral (codes "-0x5") ≡ Err Malformed
read_minus_hexadecimal = refl

read_minus_blank : signed_numeral (codes "- 5") ≡ Err Malformed
read_minus_blank = refl

read_minus : signed_numeral (codes "-") ≡ Err Malformed
read_minus = refl

read_hexadecimal : signed_numeral (codes "0XaF") ≡ Ok (Hexadecimal 0xAF)
read_hexadecimal = refl

read_no_digits : signed_numeral (codes "0x") ≡ Err Malformed
read_no_digits = refl

read_greatest : signed_numeral (codes "18446744073709551615") ≡ Ok (Decimal (pos 0xFFFFFFFFFFFFFFFF))
read_greatest = refl

read_too_great : signed_numeral (codes "18446744073709551616") ≡ Err Malformed
read_too_great = refl

read_too_great_with_zeros : signed_numeral (codes "0018446744073709551616") ≡ Err Malformed
read_too_great_with_zeros = refl

read_hexadecimal_with_zeros : signed_numeral (codes "0x0000FFFFFFFFFFFFFFFF") ≡ Ok (Hexadecimal 0xFFFFFFFFFFFFFFFF)
read_hexadecimal_with_zeros = refl

read_too_great_hexadecimal : signed_numeral (codes "0x10000000000000000") ≡ Err Malformed
read_too_great_hexadecimal = refl

read_suffix : signed_numeral (codes "4096x") ≡ Err Malformed
read_suffix = refl

read_plus : signed_numeral (codes "+5") ≡ Err Malformed
read_plus = refl

-- where nothing may be negative
unsigned_minus : unsigned_numeral (codes "-0") ≡ Err Malformed
unsigned_minus = refl

-- ---- what an accepted text says

-- SubNumber that is the number of sub-index sections, and others; an object section that no list names
notes : notes_of (sections_in (joined (with_lines 14 (codes "SubNumber=2" ∷ []) ++ (codes "[2001]" ∷ codes "SubNumber=0" ∷ codes "[2002]" ∷ codes "SubNumber=01" ∷ codes "[0FFF]" ∷ codes "SubNumber=-1" ∷ codes "[2003sub1]" ∷ codes "SubNumber=9" ∷ codes "[1000sub5]" ∷ [])))) ≡ note_at 23 Unlisted ∷ note_at 25 Unlisted ∷ note_at 26 SubNumber ∷ note_at 28 SubNumber ∷ []
notes = refl

-- a VAR's sub-index sections count too
notes_of_var : notes_of (sections_in (joined (with_lines 6 (codes "SubNumber=1" ∷ []) ++ (codes "[1000sub5]" ∷ [])))) ≡ []
notes_of_var = refl

-- 1000h in no list
unlisted_1000 : notes_of (sections_in (codes "[0FFF]\n[1000]")) ≡ note_at 2 Unlisted ∷ []
unlisted_1000 = refl

-- entries and objects in increasing order, in whatever order the text has them
in_increasing_order : map (λ r. r.key) (rows_of (joined (drop 9 small ++ take 9 small))) ≡ record { index = 0x1000; sub = 0 } ∷ record { index = 0x1001; sub = 0 } ∷ record { index = 0x1018; sub = 0 } ∷ record { index = 0x1018; sub = 1 } ∷ []
in_increasing_order = refl

objects : objects_of (joined (drop 5 small ++ take 5 small)) ≡ record { index = 0x1000; object_type = Var; name = None; line = 1 } ∷ record { index = 0x1001; object_type = Var; name = None; line = 5 } ∷ record { index = 0x1018; object_type = Record; name = None; line = 8 } ∷ []
objects = refl

-- every section line, as it is written
section_lines : section_names_in (sections_in (joined (codes "[ FileInfo ] x" ∷ codes "a" ∷ codes "[1000SUB1]" ∷ codes "[]" ∷ []))) ≡ record { name = codes "FileInfo"; line = 1 } ∷ record { name = codes "1000SUB1"; line = 3 } ∷ record { name = []; line = 4 } ∷ []
section_lines = refl

-- the dummies that DummyUsage has 1 for
dummies : map (is_dummy (dummies_in (sections_in (joined (codes "[DummyUsage]" ∷ codes "Dummy0001=1" ∷ codes "Dummy0002=0x1" ∷ codes "Dummy0003=0" ∷ codes "dummy0005=1" ∷ codes "Dummy0007=2" ∷ codes "Dummy0008=1" ∷ []))))) (1 ∷ 2 ∷ 3 ∷ 4 ∷ 5 ∷ 6 ∷ 7 ∷ 8 ∷ []) ≡ false ∷ true ∷ false ∷ false ∷ true ∷ false ∷ false ∷ false ∷ []
dummies = refl

last_dummy : is_dummy (dummies_in (sections_in (codes "[DummyUsage]\nDummy0007=1"))) 7 ≡ true
last_dummy = refl

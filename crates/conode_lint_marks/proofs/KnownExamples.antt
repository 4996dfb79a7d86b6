-- Which sections are at fault, and what rests on these, evaluated on both sides of each edge.
use Rattle.std.proofs.Common.{◌≡◌, ℕ, ◌+◌, Bool, true, false, List, [], ◌∷◌, codes, map, pos, Some, None, refl}
use Rattle.co_value.specs.declared.key.Key.{Key}
use Rattle.co_value.specs.declared.data_type.DataType.TheVariants.{Unsigned32}
use Rattle.co_profile.specs.declared.access.Access.TheVariants.{Rw}
use Rattle.co_sheet_rows.specs.declared.fault.FaultKind.{FaultKind}
use Rattle.co_sheet_rows.specs.declared.fault.FaultKind.TheVariants.{BadLine, BadNumber, MissingSection}
use Rattle.co_sheet_rows.specs.declared.fault.SheetFault.{SheetFault}
use Rattle.co_sheet.specs.Content.{Row}
use Rattle.co_sheet.specs.Limits.{Default, absent, node_id, number}
use Rattle.co_sheet_text.specs.declared.section_kind.SectionKind.{SectionKind}
use Rattle.co_sheet_text.specs.declared.section_kind.SectionKind.TheVariants.{DeviceCommissioning, DeviceInfo, DummyUsage, MandatoryObjects, Object, OptionalObjects, PassedOver, SubIndex}
use Rattle.co_sheet_text.specs.Sections.{TextSection}
use Rattle.co_dict_build.specs.declared.build_fault.BuildFault.TheVariants.{NodeId, ValueRange, BadCobId, PdoPair, BadMapping, TooMany}
use Rattle.co_dict_faults.specs.declared.mapping_fault.MappingReason.{MappingReason}
use Rattle.co_dict_faults.specs.declared.mapping_fault.MappingReason.TheVariants.{CountsMore, TooLong, Multiplexed, Missing, Zero, NoEntry, NotMappable}
use Rattle.conode_lint_marks.specs.declared.mark.Subject.TheVariants.{Build, Mapping}
use Rattle.conode_lint_marks.specs.AtFault.{is_complete, kinds_at_fault}
use Rattle.conode_lint_marks.specs.Concerns.{is_same_pdo}
use Rattle.conode_lint_marks.specs.KnownFaults.{is_any_word_unknown, is_fault_known, is_mapping_known, known_with, line_of_entry, word_of}
use Rattle.conode_lint_marks.specs.BuildLines.{value_line}

abbrev key : ℕ → ℕ → Key
key index sub = record { index = index; sub = sub }

abbrev section : SectionKind → ℕ → TextSection
section kind line = record { kind = kind; name = []; line = line; properties = [] }

abbrev valued : SectionKind → ℕ → TextSection
valued kind line =
    record { kind = kind; name = []; line = line; properties = record { name = codes "DefaultValue"; value = codes "1"; line = line + 1 } ∷ [] }

-- 1800h with sub-index 1; 1A00h with a count and two words, which map 2000:00 and 3000:00; 2000h
abbrev sections : List TextSection
sections =
    section MandatoryObjects 1 ∷ section (Object 0x1800) 10 ∷ valued (SubIndex (key 0x1800 1)) 20 ∷ section PassedOver 30 ∷ section (Object 0x1A00) 40
    ∷ valued (SubIndex (key 0x1A00 0)) 50 ∷ valued (SubIndex (key 0x1A00 1)) 60 ∷ valued (SubIndex (key 0x1A00 2)) 70 ∷ valued (Object 0x2000) 80 ∷ []

abbrev row : ℕ → ℕ → Default → Row
row index sub default =
    record { key = key index sub; data_type = Unsigned32; access = Rw; low = None; high = None; default = default; mappable = false; name = None; line = 1 }

abbrev rows : List Row
rows =
    row 0x1800 1 (node_id 0x180) ∷ row 0x1A00 0 (number (pos 2)) ∷ row 0x1A00 1 (number (pos 0x20000020)) ∷ row 0x1A00 2 (number (pos 0x30000020)) ∷ row 0x2000 0 absent ∷ []

-- ---- sections at fault

abbrev fault : FaultKind → ℕ → SheetFault
fault kind line = record { kind = kind; line = line }

abbrev kinds : List SheetFault → List SectionKind
kinds faults = kinds_at_fault faults sections

-- none; before the first section; one that is passed over, past its own line
none_at_fault : map kinds ([] ∷ (fault BadLine 0 ∷ []) ∷ (fault BadLine 31 ∷ []) ∷ []) ≡ [] ∷ [] ∷ [] ∷ []
unfolding kinds_at_fault
none_at_fault = refl

-- the last lines of sections, and the first ones; each section once
last_lines : kinds (fault BadLine 9 ∷ fault BadLine 18 ∷ fault BadLine 19 ∷ fault BadLine 30 ∷ fault BadLine 99 ∷ [])
    ≡ MandatoryObjects ∷ Object 0x1800 ∷ PassedOver ∷ Object 0x2000 ∷ []
unfolding kinds_at_fault
last_lines = refl

first_lines : kinds (fault BadLine 1 ∷ fault BadLine 20 ∷ fault BadLine 40 ∷ fault BadLine 80 ∷ []) ≡ MandatoryObjects ∷ SubIndex (key 0x1800 1) ∷ Object 0x1A00 ∷ Object 0x2000 ∷ []
unfolding kinds_at_fault
first_lines = refl

-- a listed object without a section, alone and beside another fault of the list
missing_sections : map kinds ((fault MissingSection 3 ∷ []) ∷ (fault MissingSection 3 ∷ fault BadNumber 4 ∷ []) ∷ []) ≡ [] ∷ (MandatoryObjects ∷ []) ∷ []
unfolding kinds_at_fault
missing_sections = refl

complete : map (is_complete sections) ([] ∷ (Object 0x2000 ∷ SubIndex (key 0x1800 1) ∷ DeviceCommissioning ∷ []) ∷ (MandatoryObjects ∷ []) ∷ (Object 0x2000 ∷ OptionalObjects ∷ [])
    ∷ (DummyUsage ∷ []) ∷ (DeviceInfo ∷ []) ∷ (PassedOver ∷ []) ∷ []) ≡ true ∷ true ∷ false ∷ false ∷ false ∷ false ∷ false ∷ []
unfolding is_complete
complete = refl

listless : is_complete (section (Object 0x2000) 1 ∷ []) [] ≡ false
unfolding is_complete
listless = refl

pdos : map (is_same_pdo 0x1800) (0x1800 ∷ 0x1A00 ∷ 0x1600 ∷ 0x1801 ∷ 0x1A01 ∷ []) ≡ true ∷ true ∷ true ∷ false ∷ false ∷ []
pdos = refl

-- ---- what rests on them

-- an entry: its section, that of its object, another sub-index; one that the text doesn't describe
value_ranges : map (λ at_fault. is_fault_known sections at_fault (ValueRange (key 0x1800 1))) ([] ∷ (SubIndex (key 0x1800 1) ∷ []) ∷ (Object 0x1800 ∷ []) ∷ (SubIndex (key 0x1800 2) ∷ []) ∷ [])
    ≡ true ∷ false ∷ false ∷ true ∷ []
value_ranges = refl

not_described : is_fault_known sections [] (ValueRange (key 0x1800 2)) ≡ false
not_described = refl

-- a COB-ID: its entry, and the words of the SDO channels
cob_ids : map (λ at_fault. is_fault_known sections at_fault (BadCobId (key 0x1800 1)))
    ([] ∷ (Object 0x1800 ∷ []) ∷ (Object 0x127F ∷ []) ∷ (SubIndex (key 0x1200 2) ∷ []) ∷ (SubIndex (key 0x1200 3) ∷ []) ∷ (Object 0x1280 ∷ []) ∷ [])
    ≡ true ∷ false ∷ false ∷ false ∷ true ∷ true ∷ []
cob_ids = refl

-- a lone object: both objects, another PDO, and what may be hidden
pairs_of : map (λ at_fault. is_fault_known sections at_fault (PdoPair 0x1800)) ([] ∷ (SubIndex (key 0x1800 2) ∷ []) ∷ (Object 0x1A00 ∷ []) ∷ (Object 0x1A01 ∷ []) ∷ (PassedOver ∷ []) ∷ [])
    ≡ true ∷ false ∷ false ∷ true ∷ false ∷ []
unfolding is_complete
pairs_of = refl

others : map (is_fault_known sections []) (NodeId ∷ TooMany ∷ BadMapping (key 0x1A00 0) ∷ []) ≡ true ∷ false ∷ false ∷ []
others = refl

-- ---- words

words : map word_of (number (pos 0xFFFFFFFF) ∷ number (pos 0x100000000) ∷ node_id 0 ∷ absent ∷ []) ≡ Some 0xFFFFFFFF ∷ None ∷ None ∷ None ∷ []
words = refl

abbrev reason : ℕ → MappingReason → List SectionKind → Bool
reason sub why at_fault = is_mapping_known rows sections at_fault (record { key = key 0x1A00 sub; reason = why })

-- a word whose entry is there: that entry, the mapping, another one, and what may be hidden
mapped : map (reason 1 NotMappable) ([] ∷ (Object 0x2000 ∷ []) ∷ (SubIndex (key 0x1A00 2) ∷ []) ∷ (Object 0x3000 ∷ []) ∷ (OptionalObjects ∷ []) ∷ []) ≡ true ∷ false ∷ false ∷ true ∷ true ∷ []
unfolding is_complete
mapped = refl

-- one whose entry isn't
not_there : map (reason 2 NoEntry) ([] ∷ (Object 0x2000 ∷ []) ∷ (SubIndex (key 0x3000 0) ∷ []) ∷ (OptionalObjects ∷ []) ∷ []) ≡ true ∷ true ∷ false ∷ false ∷ []
unfolding is_complete
not_there = refl

-- a multiplexed PDO rests on its mapping
multiplexed : map (reason 0 Multiplexed) ([] ∷ (OptionalObjects ∷ []) ∷ (Object 0x1A00 ∷ []) ∷ []) ≡ true ∷ true ∷ false ∷ []
multiplexed = refl

-- 0; missing, and counted beyond what is there
unmapped : map (reason 1 Zero) ([] ∷ (OptionalObjects ∷ []) ∷ (Object 0x1A00 ∷ []) ∷ []) ≡ true ∷ true ∷ false ∷ []
unmapped = refl

absent_words : map (reason 3 Missing) ([] ∷ (OptionalObjects ∷ []) ∷ []) ≡ true ∷ false ∷ []
unfolding is_complete
absent_words = refl

counted : map (reason 0 CountsMore) ([] ∷ (OptionalObjects ∷ []) ∷ []) ≡ true ∷ false ∷ []
unfolding is_complete
counted = refl

-- a length in all: each word
in_all : map (reason 0 (TooLong 72)) ([] ∷ (Object 0x2000 ∷ []) ∷ (Object 0x2001 ∷ []) ∷ (OptionalObjects ∷ []) ∷ []) ≡ true ∷ false ∷ true ∷ false ∷ []
unfolding is_complete is_any_word_unknown
in_all = refl

-- ---- their lines: of a value, of an object, of an entry that isn't there

lines : map (line_of_entry sections) (key 0x1800 1 ∷ key 0x2000 0 ∷ key 0x1800 0 ∷ key 0x1A00 7 ∷ key 0x3000 0 ∷ []) ≡ 21 ∷ 81 ∷ 10 ∷ 40 ∷ 0 ∷ []
unfolding line_of_entry value_line
lines = refl

-- those that are known
known : known_with rows sections (Object 0x2000 ∷ []) (BadCobId (key 0x1800 1) ∷ ValueRange (key 0x2000 0) ∷ BadMapping (key 0x1A00 0) ∷ [])
    (record { key = key 0x1A00 1; reason = NotMappable } ∷ record { key = key 0x1A00 2; reason = NoEntry } ∷ [])
    ≡ record { line = 21; subject = Build (BadCobId (key 0x1800 1)) } ∷ record { line = 71; subject = Mapping (record { key = key 0x1A00 2; reason = NoEntry }) } ∷ []
unfolding known_with is_complete line_of_entry value_line
known = refl

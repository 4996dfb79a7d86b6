-- Warnings that rest on a value at fault, on both sides of each edge.
use Rattle.std.proofs.Common.{◌≡◌, ℕ, ◌+◌, true, false, List, None, [], ◌∷◌, codes, drop, map, refl}
use Rattle.co_dict_build.specs.declared.build_fault.BuildFault.TheVariants.{BadCobId, PdoPair}
use Rattle.co_sheet_rows.specs.declared.fault.FaultKind.{FaultKind}
use Rattle.co_sheet_rows.specs.declared.fault.FaultKind.TheVariants.{BadAccess, BadDefault, BadLimits, BadLine, BadNumber, BadType, DuplicateKey, DuplicateSection, MissingSection, TooLarge}
use Rattle.co_sheet_rows.specs.declared.fault.SheetFault.{SheetFault}
use Rattle.co_sheet_text.specs.declared.section_kind.SectionKind.{SectionKind}
use Rattle.co_sheet_text.specs.declared.section_kind.SectionKind.TheVariants.{DeviceInfo, MandatoryObjects, Object, PassedOver, SubIndex}
use Rattle.co_sheet_text.specs.Sections.{TextSection, form_of}
use Rattle.co_sheet_text_warnings.specs.declared.warning.Warning.{Warning}
use Rattle.co_sheet_text_warnings.specs.declared.warning.WarningKind.{WarningKind}
use Rattle.co_sheet_text_warnings.specs.declared.warning.WarningKind.TheVariants.{SubNumber, SubIndex0, VarSubIndices, MandatoryForm, FileInfoKeys, DeviceInfoKeys, PdoCount, Unlisted, IdentityNumber, FixedCobId, NodeIdPlace, NodeIdSum, NegativeLimit, ReservedValue, WrongAccess, WrongType, SharedCobId, InhibitTime, OwnHeartbeat, HeartbeatTwice, NoErrorControl, LongLine}
use Rattle.conode_lint_marks.specs.declared.mark.Subject.TheVariants as mark
use Rattle.conode_lint_marks.specs.AtFault.{is_complete, kinds_at_fault}
use Rattle.conode_lint_marks.specs.BuildLines.{value_line}
use Rattle.conode_lint_marks.specs.Doubts.{doubts_of, may_state}
use Rattle.conode_lint_marks.specs.Lines.{whole_line}
use Rattle.conode_lint_marks.specs.KnownWarnings.{bad_lines, known_warnings, unknown_of}

abbrev section : SectionKind → ℕ → TextSection
section kind line = record { kind = kind; name = []; line = line; properties = [] }

abbrev sections : List TextSection
sections =
    section MandatoryObjects 1 ∷ section (Object 0x1014) 10 ∷ section (SubIndex (record { index = 0x1016; sub = 1 })) 20 ∷ section PassedOver 30
    ∷ section (SubIndex (record { index = 0x1800; sub = 2 })) 40 ∷ section (Object 0x1018) 50 ∷ section (Object 0x2000) 60 ∷ []

abbrev fault : FaultKind → ℕ → SheetFault
fault kind line = record { kind = kind; line = line }

abbrev warning : WarningKind → ℕ → Warning
warning kind line = record { kind = kind; line = line }

-- by lines that state nothing
abbrev left_by : List SheetFault → List Warning → List Warning
left_by faults warnings = known_warnings [] sections [] faults warnings

abbrev many : List Warning
many =
    warning NoErrorControl 0 ∷ warning (IdentityNumber 1) 3 ∷ warning PdoCount 4 ∷ warning Unlisted 10 ∷ warning FixedCobId 12 ∷ warning (HeartbeatTwice None) 22
    ∷ warning (SharedCobId 5) 45 ∷ warning InhibitTime 46 ∷ warning SubNumber 61 ∷ []

-- without a fault, and with one that they don't rest on, all stay
all_stay : map (λ faults. left_by faults many) ([] ∷ (fault BadAccess 62 ∷ []) ∷ []) ≡ many ∷ many ∷ []
unfolding known_warnings unknown_of is_complete kinds_at_fault doubts_of whole_line value_line
all_stay = refl

-- a number of a list; an object that is listed and has no section
list_at_fault : left_by (fault BadNumber 2 ∷ []) (warning NoErrorControl 0 ∷ warning Unlisted 10 ∷ warning SubNumber 61 ∷ []) ≡ warning SubNumber 61 ∷ []
unfolding known_warnings unknown_of is_complete kinds_at_fault doubts_of whole_line value_line
list_at_fault = refl

missing_section : left_by (fault MissingSection 2 ∷ []) (warning NoErrorControl 0 ∷ warning Unlisted 10 ∷ []) ≡ warning NoErrorControl 0 ∷ warning Unlisted 10 ∷ []
unfolding known_warnings unknown_of is_complete kinds_at_fault doubts_of whole_line value_line
missing_section = refl

-- a section line, which may be that of a sub-index or of a PDO; two COB-IDs stay the same
section_line : left_by (fault BadLine 30 ∷ []) (warning PdoCount 4 ∷ warning Unlisted 10 ∷ warning FixedCobId 12 ∷ warning (SharedCobId 5) 45 ∷ warning SubNumber 61 ∷ warning SubIndex0 62 ∷ [])
    ≡ warning FixedCobId 12 ∷ warning (SharedCobId 5) 45 ∷ []
unfolding known_warnings unknown_of is_complete kinds_at_fault doubts_of whole_line value_line
section_line = refl

-- a key of DeviceInfo, as CompactPDO
device_info : known_warnings [] (section DeviceInfo 1 ∷ section (Object 0x2000) 60 ∷ []) [] (fault BadNumber 2 ∷ []) (warning PdoCount 4 ∷ warning SubNumber 61 ∷ []) ≡ warning SubNumber 61 ∷ []
unfolding known_warnings unknown_of is_complete kinds_at_fault doubts_of whole_line value_line
device_info = refl

-- FileInfo and DeviceInfo: a section line may be that of one that is missing, and not of one that is there; a line of
-- DeviceInfo without a key may be any of its keys
abbrev infos : ℕ → List Warning
infos line = warning (FileInfoKeys []) line ∷ warning (DeviceInfoKeys []) line ∷ []

missing_infos : left_by (fault BadLine 30 ∷ []) (infos 0) ∷ left_by (fault BadLine 30 ∷ []) (infos 1) ∷ left_by (fault BadNumber 2 ∷ []) (infos 0) ∷ [] ≡ [] ∷ infos 1 ∷ infos 0 ∷ []
unfolding known_warnings unknown_of is_complete kinds_at_fault doubts_of whole_line value_line
missing_infos = refl

device_keys : map (λ line. known_warnings (codes "[DeviceInfo]" ∷ codes "VendorName V" ∷ codes "CompactPDO=x" ∷ []) (section DeviceInfo 1 ∷ []) [] (fault BadLine line ∷ []) (infos 1)) (2 ∷ 3 ∷ []) ≡ (warning (FileInfoKeys []) 1 ∷ []) ∷ infos 1 ∷ []
unfolding known_warnings unknown_of is_complete kinds_at_fault doubts_of whole_line value_line
device_keys = refl

-- the sub-indices of an object in compact form aren't counted, or may be where CompactSubObj can't be read; those of another are
abbrev compact : List ℕ → List TextSection
compact number =
    record { kind = Object 0x2000; name = []; line = 1; properties = record { name = codes "SubNumber"; value = codes "10"; line = 2 } ∷ record { name = codes "CompactSubObj"; value = number; line = 3 } ∷ [] }
    ∷ record { kind = SubIndex (record { index = 0x2000; sub = 0 }); name = []; line = 4; properties = record { name = codes "DefaultValue"; value = codes "9"; line = 5 } ∷ [] }
    ∷ record { kind = Object 0x2001; name = []; line = 6; properties = record { name = codes "SubNumber"; value = codes "10"; line = 7 } ∷ [] }
    ∷ record { kind = SubIndex (record { index = 0x2001; sub = 0 }); name = []; line = 8; properties = record { name = codes "DefaultValue"; value = codes "9"; line = 9 } ∷ [] } ∷ []

abbrev counted : List Warning
counted = warning SubNumber 2 ∷ warning SubIndex0 5 ∷ warning SubNumber 7 ∷ warning SubIndex0 9 ∷ []

compact_forms : map (λ number. known_warnings [] (compact number) [] [] counted) (codes "9" ∷ codes "x" ∷ codes "0" ∷ []) ≡ drop 2 counted ∷ drop 2 counted ∷ counted ∷ []
unfolding known_warnings unknown_of is_complete kinds_at_fault doubts_of whole_line value_line
compact_forms = refl

-- the object may come after its sub-indices; before the first section, and after many
compact_later : known_warnings [] (section (SubIndex (record { index = 0x2000; sub = 0 })) 3 ∷ section PassedOver 6 ∷ section PassedOver 8 ∷ record { kind = Object 0x2000; name = []; line = 10; properties = record { name = codes "CompactSubObj"; value = codes "9"; line = 11 } ∷ [] } ∷ []) [] []
    (warning SubNumber 1 ∷ warning SubNumber 3 ∷ warning SubIndex0 4 ∷ warning SubNumber 6 ∷ warning SubNumber 7 ∷ warning SubNumber 12 ∷ [])
    ≡ warning SubNumber 1 ∷ warning SubNumber 3 ∷ warning SubNumber 7 ∷ []
unfolding known_warnings unknown_of is_complete kinds_at_fault doubts_of whole_line value_line
compact_later = refl

-- a COB-ID: nothing is said of its own value
cob_id : left_by (fault BadDefault 12 ∷ []) (warning FixedCobId 11 ∷ warning FixedCobId 12 ∷ warning NodeIdPlace 12 ∷ warning LongLine 12 ∷ warning FixedCobId 13 ∷ [])
    ≡ warning FixedCobId 11 ∷ warning LongLine 12 ∷ warning FixedCobId 13 ∷ []
unfolding known_warnings unknown_of is_complete kinds_at_fault doubts_of whole_line value_line
cob_id = refl

-- a limit: nothing is said of one at fault
limit : left_by (fault BadDefault 11 ∷ fault BadNumber 12 ∷ []) (warning NegativeLimit 11 ∷ warning NegativeLimit 12 ∷ warning NegativeLimit 13 ∷ []) ≡ warning NegativeLimit 13 ∷ []
unfolding known_warnings unknown_of is_complete kinds_at_fault doubts_of whole_line value_line
limit = refl

-- a value and an access: nothing is said of one at fault
fixed : left_by (fault BadDefault 11 ∷ fault DuplicateKey 12 ∷ []) (warning ReservedValue 11 ∷ warning WrongAccess 12 ∷ warning WrongType 12 ∷ warning ReservedValue 13 ∷ warning WrongAccess 13 ∷ warning WrongType 13 ∷ []) ≡ warning ReservedValue 13 ∷ warning WrongAccess 13 ∷ warning WrongType 13 ∷ []
unfolding known_warnings unknown_of is_complete kinds_at_fault doubts_of whole_line value_line
fixed = refl

-- a sum: nothing is said in a section at fault, at another line too; before the first section
sum : map (λ f. left_by (f ∷ []) (warning NodeIdSum 12 ∷ warning NodeIdSum 22 ∷ [])) (fault BadNumber 9 ∷ fault BadType 11 ∷ fault BadDefault 12 ∷ fault BadLimits 19 ∷ fault DuplicateSection 20 ∷ fault BadLine 30 ∷ [])
    ≡ (warning NodeIdSum 12 ∷ warning NodeIdSum 22 ∷ []) ∷ (warning NodeIdSum 22 ∷ []) ∷ (warning NodeIdSum 22 ∷ []) ∷ (warning NodeIdSum 22 ∷ []) ∷ (warning NodeIdSum 12 ∷ []) ∷ (warning NodeIdSum 12 ∷ warning NodeIdSum 22 ∷ []) ∷ []
unfolding known_warnings unknown_of is_complete kinds_at_fault doubts_of whole_line value_line
sum = refl

-- nor in a section that comes twice
sum_twice : map (λ again. known_warnings (codes "[2000]" ∷ [] ∷ codes "[3000]" ∷ [] ∷ again ∷ []) (section (Object 0x2000) 1 ∷ section (Object 0x3000) 3 ∷ section PassedOver 5 ∷ []) [] (fault DuplicateSection 5 ∷ []) (warning NodeIdSum 2 ∷ warning NodeIdSum 4 ∷ [])) (codes "[2000]" ∷ codes "[3000]" ∷ codes "[4000]" ∷ [])
    ≡ (warning NodeIdSum 4 ∷ []) ∷ (warning NodeIdSum 2 ∷ []) ∷ (warning NodeIdSum 2 ∷ warning NodeIdSum 4 ∷ []) ∷ []
unfolding known_warnings unknown_of is_complete kinds_at_fault doubts_of whole_line value_line
sum_twice = refl

-- an object's section: a fault before it, at its line, at its last line, at the next section's line, past that; of the first section
-- and of the last; and a section line at fault
var_subs : map (λ line. left_by (fault BadAccess line ∷ []) (warning VarSubIndices 1 ∷ warning VarSubIndices 50 ∷ warning VarSubIndices 60 ∷ [])) (49 ∷ 50 ∷ 59 ∷ 60 ∷ 61 ∷ 1 ∷ 9 ∷ 10 ∷ [])
    ≡ (warning VarSubIndices 1 ∷ warning VarSubIndices 50 ∷ warning VarSubIndices 60 ∷ []) ∷ (warning VarSubIndices 1 ∷ warning VarSubIndices 60 ∷ []) ∷ (warning VarSubIndices 1 ∷ warning VarSubIndices 60 ∷ [])
    ∷ (warning VarSubIndices 1 ∷ warning VarSubIndices 50 ∷ []) ∷ (warning VarSubIndices 1 ∷ warning VarSubIndices 50 ∷ []) ∷ (warning VarSubIndices 50 ∷ warning VarSubIndices 60 ∷ [])
    ∷ (warning VarSubIndices 50 ∷ warning VarSubIndices 60 ∷ []) ∷ (warning VarSubIndices 1 ∷ warning VarSubIndices 50 ∷ warning VarSubIndices 60 ∷ []) ∷ []
unfolding known_warnings unknown_of is_complete kinds_at_fault doubts_of whole_line value_line
var_subs = refl

var_sections : left_by (fault BadLine 30 ∷ []) (warning VarSubIndices 50 ∷ []) ≡ []
unfolding known_warnings unknown_of is_complete kinds_at_fault doubts_of whole_line value_line
var_sections = refl

-- so is a mandatory object in another form
mandatory_form : map (λ line. left_by (fault BadAccess line ∷ []) (warning MandatoryForm 50 ∷ [])) (49 ∷ 50 ∷ 59 ∷ 60 ∷ []) ∷ map (λ kind. left_by (fault kind 30 ∷ []) (warning MandatoryForm 50 ∷ [])) (BadLine ∷ []) ∷ []
    ≡ ((warning MandatoryForm 50 ∷ []) ∷ [] ∷ [] ∷ (warning MandatoryForm 50 ∷ []) ∷ []) ∷ ([] ∷ []) ∷ []
unfolding known_warnings unknown_of is_complete kinds_at_fault doubts_of whole_line value_line
mandatory_form = refl

-- a bad COB-ID has neither of the two warnings of COB-IDs, and any other
bad_cob_ids : known_warnings [] sections (12 ∷ 45 ∷ []) [] (warning FixedCobId 11 ∷ warning FixedCobId 12 ∷ warning NodeIdPlace 12 ∷ warning (HeartbeatTwice None) 12 ∷ warning (SharedCobId 5) 44 ∷ warning (SharedCobId 5) 45 ∷ warning FixedCobId 45 ∷ warning FixedCobId 46 ∷ [])
    ≡ warning FixedCobId 11 ∷ warning NodeIdPlace 12 ∷ warning (HeartbeatTwice None) 12 ∷ warning (SharedCobId 5) 44 ∷ warning FixedCobId 46 ∷ []
unfolding known_warnings unknown_of is_complete kinds_at_fault doubts_of whole_line value_line
bad_cob_ids = refl

bad_marks : bad_lines (record { line = 3; subject = mark.Build (BadCobId (record { index = 0x1014; sub = 0 })) } ∷ record { line = 4; subject = mark.Build (PdoPair 0x1800) } ∷ record { line = 5; subject = mark.Fault BadDefault } ∷ record { line = 6; subject = mark.Build (BadCobId (record { index = 0x1800; sub = 1 })) } ∷ [])
    ≡ 3 ∷ 6 ∷ []
bad_marks = refl

-- two faults, and a warning at the line of each and between them
two_faults : left_by (fault BadDefault 22 ∷ fault BadDefault 24 ∷ []) (warning OwnHeartbeat 21 ∷ warning OwnHeartbeat 22 ∷ warning OwnHeartbeat 23 ∷ warning OwnHeartbeat 24 ∷ [])
    ≡ warning OwnHeartbeat 21 ∷ warning OwnHeartbeat 23 ∷ []
unfolding known_warnings unknown_of is_complete kinds_at_fault doubts_of whole_line value_line
two_faults = refl

-- ---- a sheet's lines: the COB-ID, the transmission type and the inhibit time of two TPDOs, 1016h and 1018h

abbrev lines : List (List ℕ)
lines =
    codes "[1800sub1]" ∷ codes "AccessType=rw" ∷ codes "DefaultValue=0x185" ∷ codes "[1800sub2]" ∷ codes "AccessType=rw" ∷ codes "DefaultValue=1" ∷ codes "[1800sub3]"
    ∷ codes "LowLimit=0" ∷ codes "DefaultValue=100" ∷ codes "[1801sub2]" ∷ codes "DefaultValue=1" ∷ codes "[1801sub3]" ∷ codes "DefaultValue=100" ∷ codes "[1801sub1]"
    ∷ codes " parametervalue = 0x185" ∷ codes "[1016sub2]" ∷ codes "DefaultValue=0x50064" ∷ codes "[1018sub1]" ∷ codes "DefaultValue 5" ∷ codes "[1018sub4]" ∷ codes "=5" ∷ []

abbrev sub : ℕ → ℕ → SectionKind
sub index number = SubIndex (record { index = index; sub = number })

abbrev valued : SectionKind → ℕ → ℕ → TextSection
valued kind line value_at = record { kind = kind; name = []; line = line; properties = record { name = codes "DefaultValue"; value = codes "1"; line = value_at } ∷ [] }

abbrev described : List TextSection
described =
    valued (sub 0x1800 1) 1 3 ∷ valued (sub 0x1800 2) 4 6 ∷ valued (sub 0x1800 3) 7 9 ∷ valued (sub 0x1801 2) 10 11 ∷ valued (sub 0x1801 3) 12 13 ∷ valued (sub 0x1801 1) 14 15
    ∷ valued (sub 0x1016 2) 16 17 ∷ section (sub 0x1018 1) 18 ∷ section (sub 0x1018 4) 20 ∷ []

-- in a section without ParameterValue, and in one that has it
abbrev states : List (List ℕ)
states = codes "DefaultValue=1" ∷ codes "parametervalue = 1" ∷ codes "DefaultValue 1" ∷ codes "= 1" ∷ codes "DefaultValue=" ∷ []

stating : map (λ line. may_state false (form_of line)) states ≡ true ∷ true ∷ true ∷ true ∷ true ∷ []
stating = refl

stating_beside : map (λ line. may_state true (form_of line)) states ≡ false ∷ true ∷ false ∷ false ∷ false ∷ []
stating_beside = refl

stating_nothing : map (λ line. may_state false (form_of line)) ([] ∷ codes ";DefaultValue=1" ∷ codes "LowLimit=1" ∷ codes "DefaultValues=1" ∷ codes "[2000" ∷ []) ≡ false ∷ false ∷ false ∷ false ∷ false ∷ []
stating_nothing = refl

-- a section line, another key, a value; a key in any case of letters; no key
doubtful : map (λ line. doubts_of lines (fault BadNumber line ∷ []) described) (1 ∷ 2 ∷ 3 ∷ 8 ∷ 9 ∷ 15 ∷ 19 ∷ 21 ∷ [])
    ≡ [] ∷ [] ∷ (sub 0x1800 1 ∷ []) ∷ [] ∷ (sub 0x1800 3 ∷ []) ∷ (sub 0x1801 1 ∷ []) ∷ (sub 0x1018 1 ∷ []) ∷ (sub 0x1018 4 ∷ []) ∷ []
unfolding doubts_of whole_line
doubtful = refl

-- the second of two faults of a section; two sections; before the first one
doubts : doubts_of lines (fault BadAccess 2 ∷ fault BadDefault 3 ∷ fault BadAccess 5 ∷ fault BadNumber 17 ∷ []) described ≡ sub 0x1800 1 ∷ sub 0x1016 2 ∷ []
unfolding doubts_of whole_line
doubts = refl

outside : doubts_of (codes "x" ∷ []) (fault BadLine 1 ∷ []) (section (sub 0x1800 1) 2 ∷ []) ≡ []
unfolding doubts_of
outside = refl

-- a second key; a long comment
second_key : doubts_of lines (fault DuplicateKey 3 ∷ []) described ≡ sub 0x1800 1 ∷ []
unfolding doubts_of whole_line
second_key = refl

comment : doubts_of (codes "[1800sub1]" ∷ codes "DefaultValue=1" ∷ codes " ; none" ∷ []) (fault TooLarge 3 ∷ []) (valued (sub 0x1800 1) 1 2 ∷ []) ≡ []
unfolding doubts_of whole_line
comment = refl

-- a section that comes a second time, spelled otherwise; a section line with another fault
second_section : map (λ kind. doubts_of (codes "[1800sub1]" ∷ codes " [1800Sub01] " ∷ codes "DefaultValue=1" ∷ []) (fault kind 2 ∷ []) (section (sub 0x1800 1) 1 ∷ section PassedOver 2 ∷ [])) (DuplicateSection ∷ TooLarge ∷ [])
    ≡ (sub 0x1800 1 ∷ []) ∷ [] ∷ []
unfolding doubts_of whole_line
second_section = refl

abbrev left_at : List Warning → ℕ → List Warning
left_at warnings line = known_warnings lines described [] (fault BadNumber line ∷ []) warnings

-- an inhibit time: the access of the transmission type, that type, a limit of the time, the time, the other type, the other time, the COB-ID
inhibited : map (left_at (warning InhibitTime 9 ∷ warning InhibitTime 13 ∷ [])) (5 ∷ 6 ∷ 8 ∷ 9 ∷ 11 ∷ 13 ∷ 3 ∷ [])
    ≡ (warning InhibitTime 9 ∷ warning InhibitTime 13 ∷ []) ∷ (warning InhibitTime 13 ∷ []) ∷ (warning InhibitTime 9 ∷ warning InhibitTime 13 ∷ []) ∷ (warning InhibitTime 13 ∷ [])
    ∷ (warning InhibitTime 9 ∷ []) ∷ (warning InhibitTime 9 ∷ []) ∷ (warning InhibitTime 13 ∷ []) ∷ []
unfolding known_warnings unknown_of is_complete kinds_at_fault doubts_of whole_line value_line
inhibited = refl

-- ---- warnings that compare two values: sections with their lines, and what is left with a fault at each of these lines

abbrev with_value : SectionKind → ℕ → List ℕ → TextSection
with_value kind line value = record { kind = kind; name = []; line = line; properties = record { name = codes "DefaultValue"; value = value; line = line + 1 } ∷ [] }

abbrev left_with : List (List ℕ) → List TextSection → List Warning → List SheetFault → List Warning
left_with texts sections warnings faults = known_warnings texts sections [] faults warnings

-- three with one COB-ID, the third by its ParameterValue, and one with another; the first comes a second time
abbrev cob_id_lines : List (List ℕ)
cob_id_lines =
    codes "[1800sub1]" ∷ codes "DefaultValue=$NODEID+0x180" ∷ codes "[1014]" ∷ codes "DefaultValue=0x185" ∷ codes "[1801sub1]" ∷ codes "DefaultValue=0x186" ∷ codes "ParameterValue=0x185"
    ∷ codes "[1802sub1]" ∷ codes "DefaultValue=0x300" ∷ codes "[1800Sub01]" ∷ []

abbrev cob_id_sections : List TextSection
cob_id_sections =
    with_value (sub 0x1800 1) 1 (codes "$NODEID+0x180") ∷ with_value (Object 0x1014) 3 (codes "0x185")
    ∷ record { kind = sub 0x1801 1; name = []; line = 5; properties = record { name = codes "DefaultValue"; value = codes "0x186"; line = 6 } ∷ record { name = codes "ParameterValue"; value = codes "0x185"; line = 7 } ∷ [] }
    ∷ with_value (sub 0x1802 1) 8 (codes "0x300") ∷ section PassedOver 10 ∷ []

abbrev shared_left : List SheetFault → List Warning
shared_left faults = left_with cob_id_lines cob_id_sections (warning (SharedCobId 5) 4 ∷ warning (SharedCobId 5) 7 ∷ []) faults

-- of a section line; of the first, of the second and of the third; of a DefaultValue beside a ParameterValue; of another
shared : map (λ line. shared_left (fault BadDefault line ∷ [])) (1 ∷ 2 ∷ 4 ∷ 7 ∷ 6 ∷ 9 ∷ [])
    ≡ (warning (SharedCobId 5) 4 ∷ warning (SharedCobId 5) 7 ∷ []) ∷ (warning (SharedCobId 5) 7 ∷ []) ∷ (warning (SharedCobId 5) 7 ∷ []) ∷ (warning (SharedCobId 5) 4 ∷ [])
    ∷ (warning (SharedCobId 5) 4 ∷ warning (SharedCobId 5) 7 ∷ []) ∷ (warning (SharedCobId 5) 4 ∷ warning (SharedCobId 5) 7 ∷ []) ∷ []
unfolding known_warnings unknown_of is_complete kinds_at_fault doubts_of whole_line
shared = refl

two_shared : shared_left (fault BadDefault 2 ∷ fault BadDefault 4 ∷ []) ∷ shared_left (fault DuplicateSection 10 ∷ []) ∷ [] ≡ [] ∷ (warning (SharedCobId 5) 7 ∷ []) ∷ []
unfolding known_warnings unknown_of is_complete kinds_at_fault doubts_of whole_line
two_shared = refl

-- for another node-ID the first has another one
shared_of_another : map (λ line. left_with cob_id_lines cob_id_sections (warning (SharedCobId 6) 7 ∷ []) (fault BadDefault line ∷ [])) (2 ∷ 4 ∷ []) ≡ (warning (SharedCobId 6) 7 ∷ []) ∷ [] ∷ []
unfolding known_warnings unknown_of is_complete kinds_at_fault doubts_of whole_line
shared_of_another = refl

-- words of 1016h: the smaller sub-index may come later
abbrev consumer_lines : List (List ℕ)
consumer_lines =
    codes "[1016sub2]" ∷ codes "DefaultValue=0x50064" ∷ codes "[1016sub1]" ∷ codes "DefaultValue=0x50001" ∷ codes "[1016sub3]" ∷ codes "DefaultValue=0x60064" ∷ codes "[1016sub4]" ∷ codes "DefaultValue=0x50002" ∷ []

abbrev consumer_sections : List TextSection
consumer_sections =
    with_value (sub 0x1016 2) 1 (codes "0x50064") ∷ with_value (sub 0x1016 1) 3 (codes "0x50001") ∷ with_value (sub 0x1016 3) 5 (codes "0x60064") ∷ with_value (sub 0x1016 4) 7 (codes "0x50002") ∷ []

abbrev twice_left : List SheetFault → List Warning
twice_left faults = left_with consumer_lines consumer_sections (warning (HeartbeatTwice None) 2 ∷ warning (HeartbeatTwice None) 8 ∷ []) faults

twice : map (λ line. twice_left (fault BadDefault line ∷ [])) (2 ∷ 4 ∷ 6 ∷ 8 ∷ [])
    ≡ (warning (HeartbeatTwice None) 8 ∷ []) ∷ (warning (HeartbeatTwice None) 8 ∷ []) ∷ (warning (HeartbeatTwice None) 2 ∷ warning (HeartbeatTwice None) 8 ∷ []) ∷ (warning (HeartbeatTwice None) 2 ∷ []) ∷ []
unfolding known_warnings unknown_of is_complete kinds_at_fault doubts_of whole_line
twice = refl

two_words : twice_left (fault BadDefault 2 ∷ fault BadDefault 4 ∷ []) ≡ []
unfolding known_warnings unknown_of is_complete kinds_at_fault doubts_of whole_line
two_words = refl

-- each number of 1018h by itself
abbrev identity_lines : List (List ℕ)
identity_lines =
    codes "[1018sub1]" ∷ codes "DefaultValue=1" ∷ codes "[1018sub2]" ∷ codes "DefaultValue=2" ∷ codes "[1018sub3]" ∷ codes "DefaultValue=3" ∷ codes "[1018sub4]" ∷ codes "DefaultValue=4" ∷ []

abbrev identity_sections : List TextSection
identity_sections =
    with_value (sub 0x1018 1) 1 (codes "1") ∷ with_value (sub 0x1018 2) 3 (codes "2") ∷ with_value (sub 0x1018 3) 5 (codes "3") ∷ with_value (sub 0x1018 4) 7 (codes "4") ∷ []

numbers : map (λ line. map (λ (w : Warning). w.kind) (left_with identity_lines identity_sections (warning (IdentityNumber 1) 11 ∷ warning (IdentityNumber 2) 12 ∷ warning (IdentityNumber 3) 13 ∷ []) (fault BadDefault line ∷ []))) (2 ∷ 4 ∷ 6 ∷ 8 ∷ [])
    ≡ (IdentityNumber 2 ∷ IdentityNumber 3 ∷ []) ∷ (IdentityNumber 1 ∷ IdentityNumber 3 ∷ []) ∷ (IdentityNumber 1 ∷ IdentityNumber 2 ∷ []) ∷ (IdentityNumber 1 ∷ IdentityNumber 2 ∷ IdentityNumber 3 ∷ []) ∷ []
unfolding known_warnings unknown_of is_complete kinds_at_fault doubts_of whole_line
numbers = refl

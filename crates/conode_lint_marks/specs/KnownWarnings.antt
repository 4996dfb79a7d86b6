-- The warnings of a text that rest on nothing at fault.
use Rattle.std.specs.Prelude.{ℕ, Bool, true, false, not, ◌&&◌, ◌||◌, ◌==◌, nat_lt, if◌then◌else◌, List, [], ◌∷◌, ◌++◌, drop, find, codes, Option, Some, None}
use Rattle.std.specs.List.{flat_map, list_any, prefix_len}
use Rattle.std.specs.Option.{option_map_or}
use Rattle.co_dict_build.specs.declared.build_fault.BuildFault.TheVariants.{BadCobId}
use Rattle.co_sheet_rows.specs.declared.fault.SheetFault.{SheetFault}
use Rattle.co_sheet_text.specs.declared.section_kind.SectionKind.{SectionKind}
use Rattle.co_sheet_text.specs.declared.section_kind.SectionKind.TheVariants.{Object, SubIndex}
use Rattle.co_sheet_text.specs.Properties.{property_number}
use Rattle.co_sheet_text.specs.Sections.{TextSection, property_at}
use Rattle.co_sheet_warnings.specs.Repeats.{compared}
use Rattle.co_sheet_warnings.specs.declared.repeats.ComparedNumber.{ComparedNumber}
use Rattle.co_sheet_text_warnings.specs.declared.warning.Warning.{Warning}
use Rattle.co_sheet_text_warnings.specs.declared.warning.WarningKind.{WarningKind}
use Rattle.co_sheet_text_warnings.specs.declared.warning.WarningKind.TheVariants.{SubNumber, SubIndex0, VarSubIndices, MandatoryForm, FileInfoKeys, DeviceInfoKeys, PdoCount, Unlisted, IdentityNumber, FixedCobId, NodeIdPlace, NodeIdSum, NegativeLimit, ReservedValue, WrongAccess, WrongType, SharedCobId, InhibitTime, OwnHeartbeat, HeartbeatTwice, NoErrorControl}
use Rattle.conode_lint_marks.specs.declared.concerns.Concern.TheVariants.{CompactPdo, Same, SectionLine, SubsOf}
use Rattle.conode_lint_marks.specs.declared.known_warnings.Unknown.{Unknown}
use Rattle.conode_lint_marks.specs.declared.mark.Mark.{Mark}
use Rattle.conode_lint_marks.specs.declared.mark.Subject.{Subject}
use Rattle.conode_lint_marks.specs.declared.mark.Subject.TheVariants as mark
use Rattle.conode_lint_marks.specs.AtFault.{is_complete, kinds_at_fault}
use Rattle.conode_lint_marks.specs.BuildLines.{value_line}
use Rattle.conode_lint_marks.specs.Concerns.{is_any}
use Rattle.conode_lint_marks.specs.Doubts.{doubts_of}

-- ---- what isn't known, by the sections at fault

-- CompactSubObj isn't 0, so sub-indices have no sections (CiA 306-1, compact storage)
abbrev pub is_compact : TextSection → Bool
is_compact s =
    option_map_or (λ k. not (option_map_or (λ n. n == 0) (property_number k) false))
    (property_at (codes "CompactSubObj") s) false

-- what may be wrong: which sections there are, CompactPDO, what is listed
unfoldable pub unknown_of : List TextSection → List SectionKind → Unknown
unknown_of sections kinds = record {
  sections = is_any SectionLine kinds;
  info = is_any CompactPdo kinds;
  lists = not (is_complete sections kinds);
}

-- the index of an object in compact form, and whether an object is in it
abbrev pub compact_index : TextSection → SectionKind → Option ℕ
compact_index s (Object index) = if is_compact s then Some index else None
compact_index s kind = None

abbrev pub is_compact_object : ℕ → TextSection → Bool
is_compact_object index s =
    option_map_or (λ own. own == index) (compact_index s s.kind) false

abbrev pub is_object_compact : List TextSection → ℕ → Bool
is_object_compact sections index = list_any (is_compact_object index) sections

-- a section is that of an object in compact form, or of a sub-index of one
abbrev pub is_of_compact : List TextSection → SectionKind → Bool
is_of_compact sections (Object index) = is_object_compact sections index
is_of_compact sections (SubIndex key) = is_object_compact sections key.index
is_of_compact sections kind = false

-- sections are in the order of their lines: those from the last on that begins before a line, which
-- the line is in
abbrev pub begins_before : ℕ → List TextSection → Bool
begins_before line [] = false
begins_before line (s ∷ more) = nat_lt s.line line

abbrev pub sections_from : ℕ → List TextSection → List TextSection
sections_from line [] = []
sections_from line (s ∷ more) =
    if begins_before line more then sections_from line more else s ∷ more

-- the line is in a section of an object in compact form, where these are the sections from it on
abbrev pub is_in_compact : List TextSection → ℕ → List TextSection → Bool
is_in_compact sections line [] = false
is_in_compact sections line (s ∷ more) = nat_lt s.line line && is_of_compact sections s.kind

-- ---- values that may be wrong

-- the inhibit time at a line is that of a TPDO whose COB-ID, transmission type or inhibit time may be
-- wrong (CiA 301, TPDO communication parameter, sub-indices 1 to 3)
abbrev pub is_time_with : List SectionKind → ℕ → TextSection → SectionKind → Bool
is_time_with doubts line s (SubIndex key) =
    (key.sub == 3) && (value_line s == line) && is_any (SubsOf key.index 1 3) doubts
is_time_with doubts line s kind = false

abbrev pub is_time_in_doubt : List TextSection → List SectionKind → ℕ → Bool
is_time_in_doubt sections doubts line =
    list_any (λ s. is_time_with doubts line s s.kind) sections

-- of two sections with the same number, the first: of words of 1016h that at the smaller sub-index
-- (CiA 301, heartbeat consumer), of identifiers that at the earlier line
abbrev pub sub_of : SectionKind → ℕ
sub_of (SubIndex key) = key.sub
sub_of kind = 0

abbrev pub comes_before : WarningKind → TextSection → TextSection → Bool
comes_before (HeartbeatTwice given) first s = nat_lt (sub_of first.kind) (sub_of s.kind)
comes_before kind first s = nat_lt first.line s.line

abbrev pub is_sound : List SectionKind → TextSection → Bool
is_sound doubts s = not (is_any (Same s.kind) doubts)

abbrev pub has_number : WarningKind → ℕ → TextSection → Bool
has_number kind number s = option_map_or (λ c. c.number == number) (compared kind s) false

-- a value that isn't in doubt, with this number, before that of another section
abbrev pub is_first : WarningKind → List SectionKind → TextSection → ℕ → TextSection → Bool
is_first kind doubts s number first =
    comes_before kind first s && is_sound doubts first && has_number kind number first

-- a value at a line that isn't in doubt, and has such a one before it
abbrev pub has_first : WarningKind → List SectionKind → List TextSection → ℕ → TextSection
    → ComparedNumber → Bool
has_first kind doubts sections line s c =
    (c.line == line) && is_sound doubts s && list_any (is_first kind doubts s c.number) sections

abbrev pub is_second : WarningKind → List SectionKind → List TextSection → ℕ → TextSection → Bool
is_second kind doubts sections line s =
    option_map_or (has_first kind doubts sections line s) (compared kind s) false

-- one of the two values may be wrong that a warning at a line compares
abbrev pub is_either_in_doubt : WarningKind → List TextSection → List SectionKind → ℕ → Bool
is_either_in_doubt kind sections [] line = false
is_either_in_doubt kind sections doubts line =
    not (list_any (is_second kind doubts sections line) sections)

-- ---- the warnings, which are in the order of their lines, as faults are

-- the faults from a line on, and whether the first is at that line
abbrev pub faults_from : ℕ → List SheetFault → List SheetFault
faults_from line faults = drop (prefix_len (λ f. nat_lt f.line line) faults) faults

abbrev pub begins_at : ℕ → List SheetFault → Bool
begins_at line [] = false
begins_at line (f ∷ faults) = f.line == line

-- a line comes before the section that begins next after another line
abbrev pub is_before_next : ℕ → List TextSection → ℕ → Bool
is_before_next line here n =
    option_map_or (λ s. nat_lt n s.line) (find (λ s. nat_lt line s.line) here) true

-- the section that begins at a line has a fault, where these are the sections and faults from it on
abbrev pub has_fault : ℕ → List TextSection → List SheetFault → Bool
has_fault line here [] = false
has_fault line here (f ∷ faults) = is_before_next line here f.line

-- the section that a line is in is at fault, or its value may be wrong, where these are the sections
-- from it on
abbrev pub is_at_fault_here : List SectionKind → List SectionKind → List TextSection → Bool
is_at_fault_here kinds doubts [] = false
is_at_fault_here kinds doubts (s ∷ more) =
    is_any (Same s.kind) kinds || is_any (Same s.kind) doubts

-- a line is one of these: those of COB-IDs with a build fault
abbrev pub is_one_of : List ℕ → ℕ → Bool
is_one_of lines line = list_any (λ own. own == line) lines

-- a warning of a kind at a line rests on what isn't known, or on the value at its line, which has
-- one of these faults, or is one of these bad COB-IDs; `here` are the sections from that of the line on
abbrev pub rests_on_fault : Unknown → List TextSection → List SectionKind → List SectionKind
    → List ℕ → List TextSection → List SheetFault → ℕ → WarningKind → Bool
rests_on_fault u sections kinds doubts bad here faults line SubNumber =
    u.sections || is_in_compact sections line here
rests_on_fault u sections kinds doubts bad here faults line SubIndex0 =
    u.sections || begins_at line faults || is_in_compact sections line here
rests_on_fault u sections kinds doubts bad here faults line VarSubIndices =
    u.sections || has_fault line here faults
rests_on_fault u sections kinds doubts bad here faults line MandatoryForm =
    u.sections || has_fault line here faults
rests_on_fault u sections kinds doubts bad here faults line (FileInfoKeys missing) =
    (line == 0) && u.sections
rests_on_fault u sections kinds doubts bad here faults line (DeviceInfoKeys missing) =
    ((line == 0) && u.sections) || is_any CompactPdo doubts
rests_on_fault u sections kinds doubts bad here faults line PdoCount = u.sections || u.info
rests_on_fault u sections kinds doubts bad here faults line Unlisted = u.lists
rests_on_fault u sections kinds doubts bad here faults line NoErrorControl = u.lists
rests_on_fault u sections kinds doubts bad here faults line (SharedCobId node) =
    is_one_of bad line || is_either_in_doubt (SharedCobId node) sections doubts line
rests_on_fault u sections kinds doubts bad here faults line (HeartbeatTwice given) =
    is_either_in_doubt (HeartbeatTwice given) sections doubts line
rests_on_fault u sections kinds doubts bad here faults line (IdentityNumber sub) =
    is_any (SubsOf 0x1018 sub sub) doubts
rests_on_fault u sections kinds doubts bad here faults line InhibitTime =
    is_time_in_doubt sections doubts line
rests_on_fault u sections kinds doubts bad here faults line FixedCobId =
    is_one_of bad line || begins_at line faults
rests_on_fault u sections kinds doubts bad here faults line NodeIdPlace = begins_at line faults
rests_on_fault u sections kinds doubts bad here faults line NegativeLimit = begins_at line faults
rests_on_fault u sections kinds doubts bad here faults line ReservedValue = begins_at line faults
rests_on_fault u sections kinds doubts bad here faults line WrongAccess = begins_at line faults
rests_on_fault u sections kinds doubts bad here faults line WrongType = begins_at line faults
rests_on_fault u sections kinds doubts bad here faults line OwnHeartbeat = begins_at line faults
rests_on_fault u sections kinds doubts bad here faults line NodeIdSum =
    is_at_fault_here kinds doubts here
rests_on_fault u sections kinds doubts bad here faults line kind = false

abbrev pub unless_at_fault : Unknown → List TextSection → List SectionKind → List SectionKind
    → List ℕ → List TextSection → List SheetFault → Warning → List Warning
unless_at_fault u sections kinds doubts bad here faults w =
    if rests_on_fault u sections kinds doubts bad here faults w.line w.kind then [] else w ∷ []

abbrev pub known_in : Unknown → List TextSection → List SectionKind → List SectionKind → List ℕ
    → List TextSection → List SheetFault → List Warning → List Warning
known_in u sections kinds doubts bad here faults [] = []
known_in u sections kinds doubts bad here faults (w ∷ ws) =
    unless_at_fault u sections kinds doubts bad (sections_from w.line here)
    (faults_from w.line faults) w
    ++ known_in u sections kinds doubts bad (sections_from w.line here)
    (faults_from w.line faults) ws

-- with what the sections at fault are about, and those whose value may be wrong
abbrev pub known_by : List TextSection → List SectionKind → List SectionKind → List ℕ
    → List SheetFault → List Warning → List Warning
known_by sections kinds doubts bad faults ws =
    known_in (unknown_of sections kinds) sections kinds doubts bad sections faults ws

-- those of a text with these lines, sections and faults, whose bad COB-IDs are at these lines
unfoldable pub known_warnings : List (List ℕ) → List TextSection → List ℕ → List SheetFault
    → List Warning → List Warning
known_warnings lines sections bad faults ws =
    known_by sections (kinds_at_fault faults sections) (doubts_of lines faults sections) bad faults ws

-- the mark of a warning
abbrev pub warning_mark : Warning → Mark
warning_mark warning = record { line = warning.line; subject = mark.Warning warning.kind }

-- the lines of bad COB-IDs among marks
abbrev pub bad_line : ℕ → Subject → List ℕ
bad_line line (mark.Build (BadCobId key)) = line ∷ []
bad_line line subject = []

abbrev pub bad_lines : List Mark → List ℕ
bad_lines marks = flat_map (λ m. bad_line m.line m.subject) marks

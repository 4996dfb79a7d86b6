-- The number, the name and the text of a fault, and the name and the text of a note.
use Rattle.std.specs.Prelude.{ℕ, List, ◌++◌, codes, decimal}
use Rattle.co_sheet_rows.specs.declared.fault.FaultKind.{FaultKind}
use Rattle.co_sheet_rows.specs.declared.fault.FaultKind.TheVariants.{TooLarge, BadLine, KeyOutsideSection, DuplicateSection, DuplicateKey, MissingSection, BadNumber, AmbiguousNumber, BadList, ListedTwice, MissingKey, BadType, LeftOutType, BadAccess, BadLimits, BadDefault, MissingSub0, CompactForm, MissingMandatory, Memory}
use Rattle.co_sheet_rows.specs.declared.fault.SheetFault.{SheetFault}
use Rattle.co_sheet_rows.specs.declared.note.NoteKind.{NoteKind}
use Rattle.co_sheet_rows.specs.declared.note.NoteKind.TheVariants.{SubNumber, Unlisted, NodeId}
use Rattle.co_sheet_rows.specs.declared.note.Note.{Note}

-- the number of a kind of fault
abbrev pub fault_number : FaultKind → ℕ
fault_number TooLarge = 1
fault_number BadLine = 2
fault_number KeyOutsideSection = 3
fault_number DuplicateSection = 4
fault_number DuplicateKey = 5
fault_number MissingSection = 6
fault_number BadNumber = 7
fault_number AmbiguousNumber = 8
fault_number BadList = 9
fault_number ListedTwice = 10
fault_number MissingKey = 11
fault_number BadType = 12
fault_number LeftOutType = 13
fault_number BadAccess = 14
fault_number BadLimits = 15
fault_number BadDefault = 16
fault_number MissingSub0 = 17
fault_number CompactForm = 18
fault_number MissingMandatory = 19
fault_number Memory = 20

-- the name of a kind of fault
abbrev pub fault_name : FaultKind → List ℕ
fault_name TooLarge = codes "TooLarge"
fault_name BadLine = codes "BadLine"
fault_name KeyOutsideSection = codes "KeyOutsideSection"
fault_name DuplicateSection = codes "DuplicateSection"
fault_name DuplicateKey = codes "DuplicateKey"
fault_name MissingSection = codes "MissingSection"
fault_name BadNumber = codes "BadNumber"
fault_name AmbiguousNumber = codes "AmbiguousNumber"
fault_name BadList = codes "BadList"
fault_name ListedTwice = codes "ListedTwice"
fault_name MissingKey = codes "MissingKey"
fault_name BadType = codes "BadType"
fault_name LeftOutType = codes "LeftOutType"
fault_name BadAccess = codes "BadAccess"
fault_name BadLimits = codes "BadLimits"
fault_name BadDefault = codes "BadDefault"
fault_name MissingSub0 = codes "MissingSub0"
fault_name CompactForm = codes "CompactForm"
fault_name MissingMandatory = codes "MissingMandatory"
fault_name Memory = codes "Memory"

-- the name of a kind of note
abbrev pub note_name : NoteKind → List ℕ
note_name SubNumber = codes "SubNumber"
note_name Unlisted = codes "Unlisted"
note_name NodeId = codes "NodeId"

-- the text of a fault, as `fault 9 BadList line 1`
abbrev pub fault_text : SheetFault → List ℕ
fault_text f =
    codes "fault " ++ decimal (fault_number f.kind) ++ codes " " ++ fault_name f.kind
    ++ codes " line " ++ decimal f.line

-- the text of a note, as `note 12 SubNumber`
abbrev pub note_text : Note → List ℕ
note_text n = codes "note " ++ decimal n.line ++ codes " " ++ note_name n.kind

-- All lines at fault of a text, among the faults of a data sheet (CiA 306, structure of an EDS).
use Rattle.std.specs.Prelude.{List, [], ◌∷◌, ◌++◌, Option, Some, None}
use Rattle.co_sheet_text.specs.declared.fault.TextFaultKind.{TextFaultKind}
use Rattle.co_sheet_text.specs.Text.{Line}
use Rattle.co_sheet_text.specs.Sections.{fault_at}
use Rattle.co_sheet_text.specs.LinesAtFault.{own_fault, next_read}
use Rattle.co_sheet_rows.specs.declared.fault.SheetFault.{SheetFault}
use Rattle.co_sheet.specs.Faults.{sheet_fault}

-- the fault of a line, if it has one
abbrev pub fault_of_line : Line → Option TextFaultKind → List SheetFault
fault_of_line line None = []
fault_of_line line (Some kind) = sheet_fault (fault_at line.number kind) ∷ []

-- the faults of lines, one a line, after the lines before them as they are read
abbrev pub line_faults : List Line → List Line → List SheetFault
line_faults before [] = []
line_faults before (line ∷ lines) =
    fault_of_line line (own_fault before line)
    ++ line_faults (before ++ next_read before line ∷ []) lines

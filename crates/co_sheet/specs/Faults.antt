-- A fault of a data sheet.
use Rattle.std.specs.Prelude.{ℕ}
use Rattle.co_sheet_text.specs.declared.fault.TextFaultKind.{TextFaultKind}
use Rattle.co_sheet_text.specs.declared.fault.TextFaultKind.TheVariants.{TooLarge as LongLine, BadLine as BadText, KeyOutsideSection as Outside, DuplicateSection as SectionTwice, DuplicateKey as KeyTwice, Memory as OutOfMemory}
use Rattle.co_sheet_text.specs.declared.fault.TextFault.{TextFault}
use Rattle.co_sheet_rows.specs.declared.fault.FaultKind.{FaultKind}
use Rattle.co_sheet_rows.specs.declared.fault.FaultKind.TheVariants.{TooLarge, BadLine, KeyOutsideSection, DuplicateSection, DuplicateKey, Memory}
use Rattle.co_sheet_rows.specs.declared.fault.SheetFault.{SheetFault}

-- a fault of a kind, at a line
abbrev pub fault_at : ℕ → FaultKind → SheetFault
fault_at line kind = record { kind = kind; line = line }

-- what a line's fault is called among those of a sheet
abbrev pub line_fault_kind : TextFaultKind → FaultKind
line_fault_kind LongLine = TooLarge
line_fault_kind BadText = BadLine
line_fault_kind Outside = KeyOutsideSection
line_fault_kind SectionTwice = DuplicateSection
line_fault_kind KeyTwice = DuplicateKey
line_fault_kind OutOfMemory = Memory

abbrev pub sheet_fault : TextFault → SheetFault
sheet_fault fault = fault_at fault.line (line_fault_kind fault.kind)

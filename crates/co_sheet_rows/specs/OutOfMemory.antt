-- Out of memory, which is no line's fault.
use Rattle.co_sheet_rows.specs.declared.fault.FaultKind.TheVariants.{Memory}
use Rattle.co_sheet_rows.specs.declared.fault.SheetFault.{SheetFault}

-- line 0: no line is to blame
abbrev pub out_of_memory : SheetFault
out_of_memory = record { kind = Memory; line = 0 }

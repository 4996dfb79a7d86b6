-- Of two faults that with the smaller line, the former at equal lines.
use Rattle.std.specs.Prelude.{nat_le, if◌then◌else◌, Option, Some, None}
use Rattle.co_sheet_rows.specs.declared.fault.SheetFault.{SheetFault}

abbrev pub earlier : Option SheetFault → Option SheetFault → Option SheetFault
earlier (Some f) (Some g) = Some (if nat_le f.line g.line then f else g)
earlier None o = o
earlier (Some f) None = Some f

-- The order in which the faults of a text are returned.
use Rattle.std.specs.Ordering.{nat_cmp, ordering_then}
use Rattle.std.specs.declared.cmp.Ordering.{Ordering}
use Rattle.co_sheet_rows.specs.declared.fault.SheetFault.{SheetFault}
use Rattle.co_sheet_rows.specs.FaultTexts.{fault_number}

-- by line, and then by the number of the kind
abbrev pub fault_cmp : SheetFault → SheetFault → Ordering
fault_cmp f g =
    ordering_then (nat_cmp f.line g.line) (nat_cmp (fault_number f.kind) (fault_number g.kind))

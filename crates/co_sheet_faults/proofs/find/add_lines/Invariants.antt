use Rattle.std.proofs.Common.{◌≡◌, ◌++◌, drop, map}
use Rattle.co_sheet.specs.Faults.{sheet_fault}
use Rattle.co_sheet_faults.proofs.find.add_lines.Given as goal

-- those so far, and after them those of the rest
abbrev pub invariant-loop-fault : goal.invariant-loop-fault
invariant-loop-fault l =
    l.faults.items ++ map sheet_fault (drop l.fault-index l.lines)
    ≡ l.initial.faults.items ++ map sheet_fault l.lines

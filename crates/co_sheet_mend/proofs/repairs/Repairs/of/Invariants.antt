use Rattle.std.proofs.Common.{◌≡◌, drop}
use Rattle.co_sheet_mend.specs.Repairs.{repair_at, stronger}
use Rattle.co_sheet_mend.specs.ReadableTexts.{repair_in}
use Rattle.co_sheet_mend.proofs.repairs.Repairs.of.Given as goal

-- those so far, and those of the rest
abbrev pub invariant-loop-fault : goal.invariant-loop-fault
invariant-loop-fault l = (k : _) → stronger (repair_in l.made k) (repair_at (drop l.fault-index l.faults) k) ≡ repair_at l.faults k

use Rattle.std.proofs.Common.{◌≡◌, ◌++◌, map, take}
use Rattle.conode_lint.specs.Marks.{fault_mark}
use Rattle.conode_lint.proofs.marks.add_faults.Given as goal

abbrev pub invariant-loop-fault : goal.invariant-loop-fault
invariant-loop-fault l = l.marks.items ≡ l.fn.marks.items ++ map fault_mark (take l.fault-index l.faults)

use Rattle.std.proofs.Common.{◌≡◌, drop}
use Rattle.conode_lint_marks.specs.AtFault.{is_at_fault}
use Rattle.conode_lint_marks.proofs.at_fault.is_at_fault.Given as goal

-- what the rest gives is what all give
abbrev pub invariant-loop-fault : goal.invariant-loop-fault
invariant-loop-fault l = is_at_fault l.kind l.line (drop l.fault-index l.faults) ≡ is_at_fault l.kind l.line l.faults

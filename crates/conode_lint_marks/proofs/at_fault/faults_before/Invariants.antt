use Rattle.std.proofs.Common.{◌≡◌, ℕ, ◌<◌, nat_lt, true}
use Rattle.std.specs.Prelude.{get_or}
use Rattle.co_sheet_rows.specs.declared.fault.SheetFault.{SheetFault}
use Rattle.conode_lint_marks.proofs.at_fault.faults_before.Given as goal

-- each fault so far is before the line
abbrev pub invariant-loop-count : goal.invariant-loop-count
invariant-loop-count l = (k : ℕ) (d : SheetFault) → k < l.count → nat_lt (get_or l.faults k d).line l.line ≡ true

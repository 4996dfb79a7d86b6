use Rattle.std.proofs.Common.{◌≡◌, take}
use Rattle.conode_lint_marks.specs.KnownWarnings.{bad_lines}
use Rattle.conode_lint_marks.proofs.known_warnings.bad_lines.Given as goal

abbrev pub invariant-loop-mark : goal.invariant-loop-mark
invariant-loop-mark l = l.lines.items ≡ bad_lines (take l.mark-index l.marks)

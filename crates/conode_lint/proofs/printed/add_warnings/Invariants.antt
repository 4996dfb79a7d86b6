use Rattle.std.proofs.Common.{◌≡◌, ◌++◌, take}
use Rattle.std.specs.List.{flat_map}
use Rattle.conode_lint.specs.Linted.{warning_of}
use Rattle.conode_lint.proofs.printed.add_warnings.Given as goal

abbrev pub invariant-loop-mark : goal.invariant-loop-mark
invariant-loop-mark l = l.warnings.items ≡ l.fn.warnings.items ++ flat_map warning_of (take l.mark-index l.marks)

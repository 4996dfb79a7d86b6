use Rattle.std.proofs.Common.{◌≡◌, ◌++◌, take}
use Rattle.std.specs.List.{flat_map}
use Rattle.conode_lint.specs.Allowed.{error_of}
use Rattle.conode_lint.proofs.printed.add_errors.Given as goal

abbrev pub invariant-loop-mark : goal.invariant-loop-mark
invariant-loop-mark l = l.errors.items ≡ l.fn.errors.items ++ flat_map error_of (take l.mark-index l.marks)

use Rattle.std.proofs.Common.{◌≡◌, ◌≤◌, take}
use Rattle.conode_lint.specs.Allowed.{error_count}
use Rattle.conode_lint.proofs.printed.error_count.Given as goal

abbrev pub invariant-loop-mark : goal.invariant-loop-mark
invariant-loop-mark l = record {
  count : l.count ≡ error_count (take l.mark-index l.marks);
  few : l.count ≤ l.mark-index;
}

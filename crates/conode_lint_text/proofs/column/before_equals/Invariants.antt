use Rattle.std.proofs.Common.{◌≡◌, ℕ, ◌<◌, false, get_or}
use Rattle.std.specs.Prelude.{◌==◌}
use Rattle.conode_lint_text.proofs.column.before_equals.Given as goal

abbrev pub invariant-loop-count : goal.invariant-loop-count
invariant-loop-count l = (k : ℕ) → k < l.count → (get_or l.characters k 0 == 61) ≡ false

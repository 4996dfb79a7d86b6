use Rattle.std.proofs.Common.{◌≡◌, ℕ, ◌<◌, true, get_or}
use Rattle.co_text.specs.Texts.{is_blank}
use Rattle.conode_lint_text.proofs.column.blanks.Given as goal

abbrev pub invariant-loop-count : goal.invariant-loop-count
invariant-loop-count l = (k : ℕ) → k < l.count → is_blank (get_or l.characters k 0) ≡ true

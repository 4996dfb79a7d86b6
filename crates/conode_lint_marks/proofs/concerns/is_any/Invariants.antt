use Rattle.std.proofs.Common.{◌≡◌, drop}
use Rattle.conode_lint_marks.specs.Concerns.{is_any}
use Rattle.conode_lint_marks.proofs.concerns.is_any.Given as goal

-- what the rest gives is what all give
abbrev pub invariant-loop-kind : goal.invariant-loop-kind
invariant-loop-kind l = is_any l.concern (drop l.kind-index l.kinds) ≡ is_any l.concern l.kinds

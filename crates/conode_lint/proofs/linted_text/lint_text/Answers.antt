use denote.Ref.{Bor}
use Rattle.std.proofs.Common.{◌∙◌, ℕ, List, map, ap}
use Rattle.conode_lint.proofs.linted_text.lint_text.Goals as goal

pub linted_lines-requires : goal.linted_lines-requires
linted_lines-requires c = ap (map (λ (l : Bor (List ℕ)). l.now)) c.as_slice.ensures.value ∙ c.in-Ok.ensures

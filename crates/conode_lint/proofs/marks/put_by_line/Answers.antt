use Rattle.std.proofs.Common.{ℕ, rules}
use Rattle.std.proofs.lemmas.Fn.{always_returns_same}
use Rattle.std.proofs.lemmas.List.Sorted.{IsNonDecreasingBy-from_sort_by_key}
use Rattle.conode_lint_marks.specs.declared.mark.Mark.{Mark}
use Rattle.conode_lint.proofs.marks.put_by_line.Goals as goal

pub returns : goal.returns
returns c =
    let line : Mark → ℕ = λ m. m.line in
    record {
      moved = c.in-Ok.ensures.permutation;
      rises = IsNonDecreasingBy-from_sort_by_key line _ c.in-Ok.ensures.sorted (λ a r f' k. search rules);
      stable = c.in-Ok.ensures.stable line (always_returns_same _ _ _ (λ a r f' k. search rules));
    }

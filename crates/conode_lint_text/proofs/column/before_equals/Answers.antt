use Rattle.std.proofs.Common.{ℕ, Bool, sym, arith, ap}
use Rattle.std.specs.Prelude.{◌==◌, not}
use Rattle.std.proofs.lemmas.Grind.{get_or_default_zero}
use Rattle.std.proofs.lemmas.List.Sums.{prefix_len_is}
use Rattle.conode_lint_text.proofs.column.before_equals.Goals as goal

abbrev is_other : ℕ → Bool
is_other c = not (c == 61)

pub returns-then-is_equals-clause-count : goal.returns-then-is_equals-clause-count
returns-then-is_equals-clause-count c = sym (prefix_len_is is_other c.args.characters.now c.loop-count.count 0 (omega arith) (λ k h. ap not (c.loop-count.invariant k h)) (λ _. grind (arith, get_or_default_zero)))

pub returns-clause-count : goal.returns-clause-count
returns-clause-count c = sym (prefix_len_is is_other c.args.characters.now _ 0 (omega arith) (λ k h. ap not (c.loop-count.invariant k (omega arith))) (λ h. absurd (omega arith)))

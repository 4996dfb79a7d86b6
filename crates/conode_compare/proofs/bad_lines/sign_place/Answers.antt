use Rattle.std.proofs.Common.{sym, arith}
use Rattle.std.proofs.lemmas.List.Sums.{prefix_len_is}
use Rattle.conode_compare.specs.BadLines.{is_no_sign}
use Rattle.conode_compare.proofs.bad_lines.sign_place.Goals as goal

pub returns-then-not-is_no_sign-clause-count : goal.returns-then-not-is_no_sign-clause-count
returns-then-not-is_no_sign-clause-count c = sym (prefix_len_is is_no_sign c.args.line.now c.loop-count.count 0 (omega arith) c.loop-count.invariant (λ _. grind arith))

pub returns-clause-count : goal.returns-clause-count
returns-clause-count c = sym (prefix_len_is is_no_sign c.args.line.now _ 0 (omega arith) (λ k h. c.loop-count.invariant k (omega arith)) (λ h. absurd (omega arith)))

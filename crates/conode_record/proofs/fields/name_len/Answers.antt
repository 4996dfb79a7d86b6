use Rattle.std.proofs.Common.{sym, arith}
use Rattle.std.proofs.lemmas.List.Sums.{prefix_len_is}
use Rattle.conode_trace.specs.FrameLines.{is_name_byte}
use Rattle.conode_record.proofs.fields.name_len.Goals as goal

pub returns-then-is_blank-clause-count : goal.returns-then-is_blank-clause-count
returns-then-is_blank-clause-count c = sym (prefix_len_is is_name_byte c.args.text.now c.loop-count.count 0 (omega arith) c.loop-count.invariant (λ _. grind arith))

pub returns-clause-count : goal.returns-clause-count
returns-clause-count c = sym (prefix_len_is is_name_byte c.args.text.now _ 0 (omega arith) (λ k h. c.loop-count.invariant k (omega arith)) (λ h. absurd (omega arith)))

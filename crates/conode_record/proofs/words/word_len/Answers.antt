use Rattle.std.proofs.Common.{sym, arith}
use Rattle.std.proofs.lemmas.List.Sums.{prefix_len_is}
use Rattle.conode_record.specs.Words.{is_word_byte}
use Rattle.conode_record.proofs.words.word_len.Goals as goal

pub returns-then-not-is_word_byte-clause-count : goal.returns-then-not-is_word_byte-clause-count
returns-then-not-is_word_byte-clause-count c = sym (prefix_len_is is_word_byte c.args.text.now c.loop-count.count 0 (omega arith) c.loop-count.invariant (λ _. grind arith))

pub returns-clause-count : goal.returns-clause-count
returns-clause-count c = sym (prefix_len_is is_word_byte c.args.text.now _ 0 (omega arith) (λ k h. c.loop-count.invariant k (omega arith)) (λ h. absurd (omega arith)))

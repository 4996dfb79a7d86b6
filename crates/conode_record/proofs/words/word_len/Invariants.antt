use Rattle.std.proofs.Common.{◌≡◌, ℕ, ◌<◌, true, get_or}
use Rattle.conode_record.specs.Words.{is_word_byte}
use Rattle.conode_record.proofs.words.word_len.Given as goal

abbrev pub invariant-loop-count : goal.invariant-loop-count
invariant-loop-count l = (k : ℕ) → k < l.count → is_word_byte (get_or l.text k 0) ≡ true

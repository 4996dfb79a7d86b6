use Rattle.std.proofs.Common.{◌≡◌, ℕ, ◌<◌, true, get_or}
use Rattle.co_text.specs.Texts.{is_blank}
use Rattle.conode_record.proofs.fields.blank_count.Given as goal

abbrev pub invariant-loop-count : goal.invariant-loop-count
invariant-loop-count l = (k : ℕ) → k < l.count → is_blank (get_or l.text k 0) ≡ true

use Rattle.std.proofs.Common.{◌≡◌, ℕ, ◌<◌, true, get_or}
use Rattle.conode_trace.specs.FrameLines.{is_name_byte}
use Rattle.conode_record.proofs.fields.name_len.Given as goal

abbrev pub invariant-loop-count : goal.invariant-loop-count
invariant-loop-count l = (k : ℕ) → k < l.count → is_name_byte (get_or l.text k 0) ≡ true

use Rattle.std.proofs.Common.{◌≡◌, false, length}
use Rattle.conode_record.specs.Words.{past_gap}
use Rattle.conode_record.proofs.words.past_gap.Given as goal

-- what follows the gap of what is left follows the gap of all
abbrev pub invariant-loop-byte : goal.invariant-loop-byte
invariant-loop-byte l = past_gap l.escaped l.rest ≡ past_gap false l.text

abbrev pub decreases-loop-byte : goal.decreases-loop-byte
decreases-loop-byte l = length l.rest

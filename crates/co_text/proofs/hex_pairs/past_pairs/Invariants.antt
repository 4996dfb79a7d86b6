use Rattle.std.proofs.Common.{◌≡◌, length}
use Rattle.co_text.specs.HexPairs.{pairs_at}
use Rattle.co_text.proofs.hex_pairs.past_pairs.Given as goal

abbrev pub invariant-loop-after : goal.invariant-loop-after
invariant-loop-after l = (pairs_at l.text).1 ≡ (pairs_at l.rest).1

abbrev pub decreases-loop-after : goal.decreases-loop-after
decreases-loop-after l = length l.rest

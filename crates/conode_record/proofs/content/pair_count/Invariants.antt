use Rattle.std.proofs.Common.{◌≡◌, ◌+◌, ◌≤◌, length}
use Rattle.co_text.specs.HexPairs.{pairs_at}
use Rattle.conode_record.proofs.content.pair_count.Given as goal

abbrev pub invariant-loop-after : goal.invariant-loop-after
invariant-loop-after l = record {
  count : l.count + length (pairs_at l.rest).0 ≡ length (pairs_at l.text).0;
  left : (pairs_at l.rest).1 ≡ (pairs_at l.text).1;
  within : l.count + length l.rest ≤ length l.text;
}

abbrev pub decreases-loop-after : goal.decreases-loop-after
decreases-loop-after l = length l.rest

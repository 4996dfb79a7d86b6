use Rattle.std.proofs.Common.{◌≤◌, length}
use Rattle.co_text.proofs.Pairs.{AreRead}
use Rattle.conode_record.proofs.content.any_pairs_at.Given as goal

abbrev pub invariant-loop-byte : goal.invariant-loop-byte
invariant-loop-byte l = record {
  read : AreRead l.text l.bytes l.rest;
  few : length l.bytes ≤ 8;
}

abbrev pub decreases-loop-byte : goal.decreases-loop-byte
decreases-loop-byte l = length l.rest

use Rattle.std.proofs.Common.{◌≡◌, length}
use Rattle.co_text.proofs.Pairs.{AreRead}
use Rattle.conode_record.proofs.content.eight_in.Given as goal

abbrev pub invariant-loop-pair : goal.invariant-loop-pair
invariant-loop-pair l = record {
  read : AreRead l.text l.bytes l.rest;
  few : length l.bytes ≡ l._pair;
}

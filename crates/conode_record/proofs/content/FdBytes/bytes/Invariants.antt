use Rattle.std.proofs.Common.{length}
use Rattle.co_text.proofs.Pairs.{AreRead}
use Rattle.conode_record.proofs.content.FdBytes.bytes.Given as goal

abbrev pub invariant-loop-byte : goal.invariant-loop-byte
invariant-loop-byte l = AreRead l.initial.rest l.bytes.items l.rest

abbrev pub decreases-loop-byte : goal.decreases-loop-byte
decreases-loop-byte l = length l.rest

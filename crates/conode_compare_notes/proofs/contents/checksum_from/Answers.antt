-- One byte more, and the end of the bytes.
use Rattle.std.proofs.Common.{drop-cons, arith}
use Rattle.std.proofs.Math.ListN.{drop_of_length-le}
use Rattle.std.proofs.lemmas.Grind.{common_steps}
use Rattle.conode_compare_notes.proofs.contents.checksum_from.Goals as goal

pub loop-byte-preserved : goal.loop-byte-preserved
loop-byte-preserved c = grind (arith, common_steps, drop-cons)

pub returns : goal.returns
returns c = grind (arith, common_steps, drop_of_length-le)

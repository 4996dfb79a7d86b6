use Rattle.std.proofs.Common.{arith}
use Rattle.conode_explain_text.proofs.PairTable.{looked_up}
use Rattle.conode_explain_text.proofs.pieces.pair_of.Goals as goal

pub returns-clause-digits : goal.returns-clause-digits
returns-clause-digits c = looked_up c.args.byte (omega arith)

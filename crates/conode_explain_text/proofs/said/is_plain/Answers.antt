use Rattle.std.proofs.Common.{arith}
use Rattle.conode_explain_text.proofs.PlainTable.{looked_up}
use Rattle.conode_explain_text.proofs.said.is_plain.Goals as goal

pub returns : goal.returns
returns c = looked_up c.args.byte (omega arith)

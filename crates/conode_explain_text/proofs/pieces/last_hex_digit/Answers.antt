use Rattle.std.proofs.Common.{◌%◌, arith}
use Rattle.conode_explain_text.proofs.DigitTable.{looked_up}
use Rattle.conode_explain_text.proofs.pieces.last_hex_digit.Goals as goal

pub returns : goal.returns
returns c = looked_up (c.args.number % 16) (omega arith)

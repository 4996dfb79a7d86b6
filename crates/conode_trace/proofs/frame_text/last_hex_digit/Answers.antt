use Rattle.std.proofs.Common.{◌%◌, arith}
use Rattle.conode_trace.proofs.HexDigitTable.{looked_up}
use Rattle.conode_trace.proofs.frame_text.last_hex_digit.Goals as goal

pub returns : goal.returns
returns c = rw c.from.ensures (looked_up (c.args.number % 16) (omega arith))

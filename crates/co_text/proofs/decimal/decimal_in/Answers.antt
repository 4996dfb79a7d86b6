use Rattle.std.proofs.Common.{◌+◌, arith}
use Rattle.co_text.proofs.Decimals.{decimal_value-more, decimal_value-front, decimal_too_large, decimal_found_at}
use Rattle.co_text.proofs.decimal.decimal_in.Goals as goal

pub returns-then-number-from : goal.returns-then-number-from
returns-then-number-from c =
    let i = c.loop-byte.byte-index in
    let next = decimal_value-more c.args.word.now i (omega arith) in
    let front = decimal_value-front c.args.word.now (i + 1) in
    decimal_too_large c.args.least c.args.most c.args.word.now (omega (arith, next, front, c.loop-byte.invariant.number, c.if-number-from.true))

pub returns : goal.returns
returns c = decimal_found_at c.args.least c.args.most c.args.word.now c.loop-byte.byte-index c.loop-byte.number (omega arith) c.loop-byte.invariant.number (grind arith) c.loop-byte.invariant.digits (omega arith) (omega arith)

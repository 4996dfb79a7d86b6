use Rattle.std.proofs.Common.{◌<◌, arith}
use Rattle.co_text.proofs.HexDigits.{looked_up, digit_found, no_digit}
use Rattle.co_text.proofs.hex_digits.hex_digit.Goals as goal

pub returns-then-digit-lt16-clause-value : goal.returns-then-digit-lt16-clause-value
returns-then-digit-lt16-clause-value c =
    let below : c.args.byte < 256 = omega arith in
    rw c.from.ensures (digit_found c.args.byte _ (looked_up c.args.byte below) (rw c.from.ensures at c.if-digit-lt16.true))

pub returns-else-digit-lt16-clause-value : goal.returns-else-digit-lt16-clause-value
returns-else-digit-lt16-clause-value c =
    let below : c.args.byte < 256 = omega arith in
    no_digit c.args.byte _ (looked_up c.args.byte below) (rw c.from.ensures at c.if-digit-lt16.false)

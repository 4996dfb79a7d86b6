use Rattle.std.proofs.Common.{append_assoc, rules}
use Rattle.co_text.proofs.EightDigits.{eight_digits}
use Rattle.co_text.proofs.digits.push_u32.Goals as goal

pub returns : goal.returns
returns c = rw (← eight_digits c.args.number) (search (rules, append_assoc))

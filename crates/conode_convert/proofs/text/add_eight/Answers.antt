use Rattle.std.proofs.Common.{rules, append_assoc}
use Rattle.co_text.proofs.EightDigits.{eight_digits}
use Rattle.conode_convert.proofs.text.add_eight.Goals as goal

pub returns : goal.returns
returns c = rw (← eight_digits c.args.id) (search (rules, append_assoc))

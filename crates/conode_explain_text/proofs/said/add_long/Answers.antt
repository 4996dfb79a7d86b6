use Rattle.std.proofs.Common.{append_assoc, rules}
use Rattle.co_text.proofs.EightDigits.{eight_digits}
use Rattle.conode_explain_text.proofs.said.add_long.Goals as goal

pub returns : goal.returns
returns c = rw (← eight_digits c.args.code) (search (rules, append_assoc))

use Rattle.std.proofs.Common.{rules}
use Rattle.conode_explain_text.proofs.StampLemmas.{five}
use Rattle.conode_explain_text.proofs.pieces.put_five_columns.Goals as goal

pub returns-clause-items : goal.returns-clause-items
returns-clause-items c = rw (← five c.args.number c.requires.short) (search rules)

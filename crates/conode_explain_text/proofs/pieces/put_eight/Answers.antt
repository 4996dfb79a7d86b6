use Rattle.std.proofs.Common.{append_assoc, rules}
use Rattle.conode_explain_text.proofs.ColumnLemmas.{eight}
use Rattle.conode_explain_text.proofs.pieces.put_eight.Goals as goal

pub returns-clause-items : goal.returns-clause-items
returns-clause-items c = rw (eight c.args.bytes.now c.requires.eight) (search (rules, append_assoc))

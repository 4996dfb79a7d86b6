use Rattle.std.proofs.Common.{◌∙◌}
use Rattle.conode_explain_services.proofs.Tables.{by_rows}
use Rattle.conode_explain_services.proofs.texts.words_in.Goals as goal

pub returns : goal.returns
returns c = c.words_of.ensures ∙ by_rows c.args.rows.now c.args.number

-- By the data sheets of the texts, before which nothing is written.
use Rattle.conode_explain.specs.Sheets.{in_order}
use Rattle.conode_explain.proofs.StatusLemmas.{by_few, explains_all, not_zero}
use Rattle.conode_explain.proofs.explain_file.explain_named.Goals as goal

pub returns-in-Ok-clause-status : goal.returns-in-Ok-clause-status
returns-in-Ok-clause-status g c =
    let ends = c.explain_texts.ensures in
    by_few c.args.form (in_order ends.0) _ _ _ ends.1

pub returns-in-Ok-clause-whole : goal.returns-in-Ok-clause-whole
returns-in-Ok-clause-whole g c =
    explains_all c.args.form _ _ _ (rw c.in-Ok.ensures.kept at c.explain_texts.ensures)

pub returns-in-Err-clause-whole : goal.returns-in-Err-clause-whole
returns-in-Err-clause-whole g c = not_zero _ c.in-Err.ensures.err

-- With the filter of their words, where these are right.
use Rattle.conode_explain.proofs.StatusLemmas.{not_zero}
use Rattle.conode_explain.proofs.explain_file.explain_files.Goals as goal

pub returns-in-Err-clause-whole : goal.returns-in-Err-clause-whole
returns-in-Err-clause-whole g c = not_zero _ c.bad_filter.ensures

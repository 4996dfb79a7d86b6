use Rattle.conode_text.proofs.Appending.{both}
use Rattle.conode_lint_text.proofs.sarif_form.put_log_end.Goals as goal

pub returns : goal.returns
returns c = both (both c.put.ensures c.put_left_out.ensures) c.put-2.ensures

use Rattle.conode_json.specs.Members.{object_begin, text_member}
use Rattle.conode_lint_text.proofs.sarif_form.end_result.Goals as goal

pub returns : goal.returns
unfolding object_begin text_member
returns c = rw c.fix_of.ensures at c.put.ensures

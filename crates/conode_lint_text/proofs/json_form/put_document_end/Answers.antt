use Rattle.conode_json.specs.Members.{count_member}
use Rattle.conode_lint_text.specs.JsonForm.{document_end}
use Rattle.conode_lint_text.proofs.json_form.put_document_end.Goals as goal

pub returns : goal.returns
unfolding document_end count_member
returns c = c.put.ensures

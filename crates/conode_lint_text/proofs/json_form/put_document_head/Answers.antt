use Rattle.conode_json.specs.Members.{array_begin, count_member}
use Rattle.conode_lint_text.specs.JsonForm.{document_head}
use Rattle.conode_lint_text.proofs.json_form.put_document_head.Goals as goal

pub returns : goal.returns
unfolding document_head array_begin count_member
returns c = c.put.ensures

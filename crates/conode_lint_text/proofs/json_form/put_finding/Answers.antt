use Rattle.conode_json.specs.Members.{count_member, text_member}
use Rattle.conode_lint_text.specs.JsonForm.{finding_tokens}
use Rattle.conode_lint_text.proofs.json_form.put_finding.Goals as goal

pub returns : goal.returns
unfolding finding_tokens count_member text_member
returns c = rw c.fix_of.ensures at c.put_parts.ensures

use Rattle.conode_json.specs.Members.{object_begin, text_member}
use Rattle.conode_lint_text.specs.SarifForm.{rule_tokens}
use Rattle.conode_lint_text.proofs.sarif_form.put_rule.Goals as goal

pub returns : goal.returns
unfolding rule_tokens object_begin text_member
returns c = c.put_parts.ensures

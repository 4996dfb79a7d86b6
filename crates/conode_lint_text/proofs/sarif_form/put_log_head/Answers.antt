-- The tool before its rules, the rules, and what follows before the results.
use Rattle.conode_json.specs.Members.{array_begin, object_begin, text_member}
use Rattle.conode_text.proofs.Appending.{both}
use Rattle.conode_lint_text.specs.SarifForm.{log_begin, log_head, tool_begin, tool_end}
use Rattle.conode_lint_text.proofs.sarif_form.put_log_head.Goals as goal

pub returns : goal.returns
unfolding log_head log_begin tool_begin tool_end array_begin object_begin text_member
returns c = both (both c.put.ensures c.put-2.ensures) c.put-3.ensures

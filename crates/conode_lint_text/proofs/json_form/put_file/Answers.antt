-- The members before the findings, the findings, and the end.
use Rattle.conode_json.specs.Members.{array_begin, count_member, flag_member, text_member}
use Rattle.conode_text.proofs.Appending.{both}
use Rattle.conode_lint_text.specs.JsonForm.{file_tokens}
use Rattle.conode_lint_text.proofs.json_form.put_file.Goals as goal

pub returns : goal.returns
unfolding file_tokens array_begin count_member flag_member text_member
returns c = both (both c.put.ensures c.put-2.ensures) c.end_file.ensures

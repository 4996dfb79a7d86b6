use Rattle.conode_json.specs.Members.{count_member, object_begin, text_member}
use Rattle.conode_lint_text.proofs.sarif_form.put_snippet.Goals as goal

pub returns-then-is_whole : goal.returns-then-is_whole
unfolding object_begin text_member
returns-then-is_whole c = rw c.if-is_whole.true c.put_parts.ensures

pub returns : goal.returns
unfolding object_begin count_member text_member
returns c = rw c.if-is_whole.false c.put_parts-2.ensures

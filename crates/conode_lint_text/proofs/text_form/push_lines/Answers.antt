use Rattle.conode_lint_text.specs.TextForm.{finding_lines}
use Rattle.conode_lint_text.proofs.text_form.push_lines.Goals as goal

pub returns : goal.returns
unfolding finding_lines
returns c = rw (c.label_colour.ensures, c.column_of.ensures, c.requires, c.fix_of.ensures) at c.push_filled.ensures

use Rattle.std.proofs.Common.{◌∙◌}
use Rattle.conode_lint.proofs.MarkLemmas.{read_in_others}
use Rattle.conode_lint.proofs.marks.add_found.Goals as goal

pub add_marks-requires-clause-sections : goal.add_marks-requires-clause-sections
add_marks-requires-clause-sections c = c.requires.sections ∙ read_in_others c.args.text.now c.if-text-gt-GREATEST_SIZE.false

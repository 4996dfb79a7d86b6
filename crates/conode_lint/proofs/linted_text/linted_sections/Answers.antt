use Rattle.std.proofs.Common.{◌∙◌, sym}
use Rattle.conode_lint.proofs.MarkLemmas.{read_in_others}
use Rattle.conode_lint.proofs.SheetLemmas.{if_some}
use Rattle.conode_lint.proofs.linted_text.linted_sections.Goals as goal

pub linted_in-requires-clause-sections : goal.linted_in-requires-clause-sections
linted_in-requires-clause-sections c = c.requires.sections ∙ sym (read_in_others c.args.text.now c.requires.size)

pub linted_in-requires-clause-small : goal.linted_in-requires-clause-small
linted_in-requires-clause-small c = if_some c.in-Ok.sheet _ c.requires.size

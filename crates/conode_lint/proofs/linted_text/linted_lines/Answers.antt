use Rattle.std.proofs.Common.{◌∙◌}
use Rattle.conode_lint.proofs.MarkLemmas.{none_in_large}
use Rattle.conode_lint.proofs.SheetLemmas.{none_of_large}
use Rattle.conode_lint.proofs.linted_text.linted_lines.Goals as goal

pub linted_in-requires-clause-sections : goal.linted_in-requires-clause-sections
linted_in-requires-clause-sections c = none_in_large c.args.text.now c.if-text-gt-GREATEST_SIZE.true

pub linted_in-requires-clause-sheet : goal.linted_in-requires-clause-sheet
linted_in-requires-clause-sheet c = none_of_large c.args.text.now c.if-text-gt-GREATEST_SIZE.true

pub linted_parsed-requires-clause-at_fault : goal.linted_parsed-requires-clause-at_fault
linted_parsed-requires-clause-at_fault c = c.as_slice.ensures.value ∙ c.in-Ok.ensures.faults

use Rattle.conode_text.proofs.FilledLaws.{none_if, place_if}
use Rattle.conode_text.proofs.filled.first_place.Goals as goal

pub returns-clause-none : goal.returns-clause-none
returns-clause-none c = none_if c.args.words.now c.split_once.result c.split_once.ensures.cases

pub returns-clause-place : goal.returns-clause-place
returns-clause-place c = place_if c.args.words.now c.split_once.result c.split_once.ensures.cases

use Rattle.conode_explain_forms.proofs.Readings.{more_if, one_if}
use Rattle.conode_explain_forms.proofs.signal.first_word.Goals as goal

pub returns-clause-one : goal.returns-clause-one
returns-clause-one c = one_if c.args.text.now c.split_once.result c.split_once.ensures.cases

pub returns-clause-more : goal.returns-clause-more
returns-clause-more c = more_if c.args.text.now c.split_once.result c.split_once.ensures.cases

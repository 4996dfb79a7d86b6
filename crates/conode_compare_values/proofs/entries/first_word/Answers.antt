use Rattle.conode_compare_values.proofs.Readings.{more_if, one_if}
use Rattle.conode_compare_values.proofs.entries.first_word.Goals as goal

pub returns-clause-one : goal.returns-clause-one
returns-clause-one c = one_if c.args.text.now c.split_at_first.result c.split_at_first.ensures.some

pub returns-clause-more : goal.returns-clause-more
returns-clause-more c =
    more_if c.args.text.now c.split_at_first.result c.split_at_first.ensures.some c.split_at_first.ensures.before c.split_at_first.ensures.after

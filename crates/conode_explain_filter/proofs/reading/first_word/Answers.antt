use Rattle.std.proofs.Common.{sym, ◌∙◌}
use Rattle.conode_explain_filter.proofs.Readings.{more_if, one_if, one_time}
use Rattle.conode_explain_filter.proofs.reading.first_word.Goals as goal

pub returns-then-is_time-clause-one : goal.returns-then-is_time-clause-one
returns-then-is_time-clause-one c = one_time c.args.option c.args.text.now (sym c.is_time.ensures ∙ c.if-is_time.true)

pub returns-clause-one : goal.returns-clause-one
returns-clause-one c = one_if c.args.option c.args.text.now (sym c.is_time.ensures ∙ c.if-is_time.false) c.split_once.result c.split_once.ensures.cases

pub returns-clause-more : goal.returns-clause-more
returns-clause-more c = more_if c.args.option c.args.text.now (sym c.is_time.ensures ∙ c.if-is_time.false) c.split_once.result c.split_once.ensures.cases

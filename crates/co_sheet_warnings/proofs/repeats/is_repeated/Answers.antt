use Rattle.co_sheet_warnings.proofs.NameLemmas.{again}
use Rattle.co_sheet_warnings.proofs.repeats.is_repeated.Goals as goal

pub returns-clause-again : goal.returns-clause-again
returns-clause-again c = again c.in-Ok.value c.args.name c.args.before.now.keys c.in-Ok.ensures.added

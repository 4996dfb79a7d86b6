use Rattle.co_pdo.proofs.Words.{at_least_1}
use Rattle.co_pdo.proofs.mapping.Mapped.by_word.Goals as goal

pub returns-in-None-clause-width : goal.returns-in-None-clause-width
returns-in-None-clause-width g c = at_least_1 _ (g.S.ObjectStore.description c.args.store.now) c.args.word.0 c.in_ok-width.width c.in_ok-width.ensures.value

use Rattle.co_pdo.proofs.Actives.{active_there}
use Rattle.co_pdo.proofs.laws.active_is_there.Goals as goal

pub returns : goal.returns
returns g c = λ side k on. active_there side _ _ k (g.met.S.ObjectStore.lawful c.args.store.now) on

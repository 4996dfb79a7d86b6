use Rattle.co_pdo.specs.Schedules.{log_of}
use Rattle.co_pdo.proofs.Idles.{no_tpdo_due}
use Rattle.co_pdo.proofs.schedule.Schedule.idle.Goals as goal

pub returns : goal.returns
returns g c = λ history n stands current le.
    no_tpdo_due (g.S.ObjectStore.description c.args.store.now) (g.S.ObjectStore.contents c.args.store.now) _ _ _ _ _ history n (g.met.S.ObjectStore.lawful c.args.store.now)
    c.deref-tpdos.ensures.value c.deref-places.ensures.value c.self.view_is stands current
    (λ placed after. c.idle_among.ensures (λ k. log_of k history) n placed after current le)

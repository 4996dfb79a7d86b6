use Rattle.std.proofs.Common.{refl, sym, subst, arith}
use Rattle.co_pdo.specs.declared.tpdo.Tpdo.{Tpdo}
use Rattle.std.specs.Prelude.{List}
use Rattle.co_pdo.specs.declared.tpdo.Occasion.TheVariants.{Tick}
use Rattle.co_pdo.specs.Schedules.{IsTable, OnTick}
use Rattle.co_pdo.proofs.Histories.{timetable_kept, same_timetable, all_due_is, after_occasion, all_written}
use Rattle.co_pdo.proofs.schedule.Schedule.on_tick.Goals as goal

pub invariant_of-self : goal.invariant_of-self
invariant_of-self g c = timetable_kept _ _ c.all_happen.new.tpdos _ _ c.deref_mut.ensures.value c.self.invariant c.all_happen.ensures.numbers (all_written _ c.all_happen.new.tpdos _ (omega (arith, c.deref_mut.ensures.len, c.all_happen.auto.tpdos)))

pub returns-clause-due : goal.returns-clause-due
returns-clause-due g c = λ history given current.
    let table : IsTable c.deref_mut.result.now = subst (λ (ts : List Tpdo). IsTable ts) (sym c.deref_mut.ensures.value) c.self.invariant.table in
    all_due_is _ _ c.deref_mut.result.now _ c.all_happen.new.tpdos history (same_timetable _ _ _ _ c.deref_mut.ensures.value c.self.view_is) given table c.all_happen.ensures.numbers (g.S.ObjectStore.contents c.args.store.now) _ c.deref.ensures.value (g.met.S.ObjectStore.lawful c.args.store.now) current c.all_happen.new.sent.items Tick c.all_happen.ensures.due

pub returns-clause-after : goal.returns-clause-after
returns-clause-after g c = λ history given current.
    let table : IsTable c.deref_mut.result.now = subst (λ (ts : List Tpdo). IsTable ts) (sym c.deref_mut.ensures.value) c.self.invariant.table in
    after_occasion _ _ c.deref_mut.result.now _ c.all_happen.new.tpdos history (same_timetable _ _ _ _ c.deref_mut.ensures.value c.self.view_is) given table c.all_happen.ensures.numbers (g.S.ObjectStore.contents c.args.store.now) _ c.deref.ensures.value (g.met.S.ObjectStore.lawful c.args.store.now) current c.all_happen.new.sent.items Tick c.all_happen.ensures.due c.all_happen.ensures.after OnTick (λ k. refl)
    _ (all_written _ c.all_happen.new.tpdos _ (omega (arith, c.deref_mut.ensures.len, c.all_happen.auto.tpdos)))

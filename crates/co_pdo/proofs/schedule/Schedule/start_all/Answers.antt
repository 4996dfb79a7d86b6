use Rattle.std.proofs.Common.{sym, subst, arith}
use Rattle.co_pdo.specs.declared.tpdo.Tpdo.{Tpdo}
use Rattle.std.specs.Prelude.{List}
use Rattle.co_pdo.specs.Schedules.{IsTable}
use Rattle.co_pdo.proofs.Histories.{timetable_kept, same_timetable, after_all_started, all_written}
use Rattle.co_pdo.proofs.schedule.Schedule.start_all.Goals as goal

pub invariant_of-self : goal.invariant_of-self
invariant_of-self g c = timetable_kept _ _ c.all_start.new.tpdos _ _ c.deref_mut.ensures.value c.self.invariant c.all_start.ensures.numbers (all_written _ c.all_start.new.tpdos _ (omega (arith, c.deref_mut.ensures.len, c.all_start.auto.tpdos)))

pub returns-clause-after : goal.returns-clause-after
returns-clause-after g c = λ history given.
    let table : IsTable c.deref_mut.result.now = subst (λ (ts : List Tpdo). IsTable ts) (sym c.deref_mut.ensures.value) c.self.invariant.table in
    after_all_started _ _ c.deref_mut.result.now _ c.all_start.new.tpdos history (same_timetable _ _ _ _ c.deref_mut.ensures.value c.self.view_is) given table c.all_start.ensures.numbers (g.S.ObjectStore.contents c.args.store.now) _ c.deref.ensures.value c.all_start.ensures.after
    _ (all_written _ c.all_start.new.tpdos _ (omega (arith, c.deref_mut.ensures.len, c.all_start.auto.tpdos)))

use Rattle.std.proofs.Common.{sym, subst, arith}
use Rattle.co_pdo.specs.declared.tpdo.Tpdo.{Tpdo}
use Rattle.std.specs.Prelude.{List}
use Rattle.co_pdo.specs.Schedules.{IsTable}
use Rattle.co_pdo.proofs.Histories.{timetable_kept, same_timetable, all_due_among_is, after_events, all_written}
use Rattle.co_pdo.proofs.schedule.Schedule.on_events.Goals as goal

pub invariant_of-self : goal.invariant_of-self
invariant_of-self g c = timetable_kept _ _ c.all_happen_among.new.tpdos _ _ c.deref_mut.ensures.value c.self.invariant c.all_happen_among.ensures.numbers (all_written _ c.all_happen_among.new.tpdos _ (omega (arith, c.deref_mut.ensures.len, c.all_happen_among.auto.tpdos)))

pub returns-clause-due : goal.returns-clause-due
returns-clause-due g c = λ history given current.
    let table : IsTable c.deref_mut.result.now = subst (λ (ts : List Tpdo). IsTable ts) (sym c.deref_mut.ensures.value) c.self.invariant.table in
    all_due_among_is _ _ c.deref_mut.result.now _ c.all_happen_among.new.tpdos history (same_timetable _ _ _ _ c.deref_mut.ensures.value c.self.view_is) given table c.all_happen_among.ensures.numbers (g.S.ObjectStore.contents c.args.store.now) _ c.deref.ensures.value (g.met.S.ObjectStore.lawful c.args.store.now) current c.all_happen_among.new.sent.items c.args.numbers.now c.all_happen_among.ensures.due

pub returns-clause-after : goal.returns-clause-after
returns-clause-after g c = λ history given current.
    let table : IsTable c.deref_mut.result.now = subst (λ (ts : List Tpdo). IsTable ts) (sym c.deref_mut.ensures.value) c.self.invariant.table in
    after_events _ _ c.deref_mut.result.now _ c.all_happen_among.new.tpdos history (same_timetable _ _ _ _ c.deref_mut.ensures.value c.self.view_is) given table c.all_happen_among.ensures.numbers (g.S.ObjectStore.contents c.args.store.now) _ c.deref.ensures.value (g.met.S.ObjectStore.lawful c.args.store.now) current c.all_happen_among.new.sent.items c.args.numbers.now c.all_happen_among.ensures.due c.all_happen_among.ensures.after
    _ (all_written _ c.all_happen_among.new.tpdos _ (omega (arith, c.deref_mut.ensures.len, c.all_happen_among.auto.tpdos)))

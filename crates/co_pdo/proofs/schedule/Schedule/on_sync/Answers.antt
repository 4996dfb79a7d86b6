use Rattle.std.proofs.Common.{◌≡◌, ◌<◌, refl, sym, subst, length, arith}
use Rattle.co_pdo.specs.declared.tpdo.Tpdo.{Tpdo}
use Rattle.std.specs.Prelude.{List}
use Rattle.co_dict.specs.Rows.{number_at}
use Rattle.co_profile.specs.Keys.{counter_overflow_key}
use Rattle.co_pdo.specs.Schedules.{IsTable, OnSync, sync_with}
use Rattle.co_pdo.proofs.Histories.{timetable_kept, same_timetable, all_due_is, after_occasion, all_written, due_with, after_with, overflow_of}
use Rattle.co_pdo.proofs.schedule.Schedule.on_sync.Goals as goal

pub invariant_of-self : goal.invariant_of-self
invariant_of-self g c = timetable_kept _ _ c.all_happen.new.tpdos _ _ c.deref_mut.ensures.value c.self.invariant c.all_happen.ensures.numbers (all_written _ c.all_happen.new.tpdos _ (omega (arith, c.deref_mut.ensures.len, c.all_happen.auto.tpdos)))

pub returns-clause-due : goal.returns-clause-due
returns-clause-due g c = λ history given current.
    let table : IsTable c.deref_mut.result.now = subst (λ (ts : List Tpdo). IsTable ts) (sym c.deref_mut.ensures.value) c.self.invariant.table in
    let contents = g.S.ObjectStore.contents c.args.store.now in
    let overflow : 0 < length c.deref_mut.result.now → c.counter_overflow.result ≡ number_at contents counter_overflow_key =
    overflow_of _ _ c.deref_mut.result.now _ c.all_happen.new.tpdos history (same_timetable _ _ _ _ c.deref_mut.ensures.value c.self.view_is) given contents c.deref.result.now c.counter_overflow.result c.deref.ensures.value c.counter_overflow.ensures in
    all_due_is _ _ c.deref_mut.result.now _ c.all_happen.new.tpdos history (same_timetable _ _ _ _ c.deref_mut.ensures.value c.self.view_is) given table c.all_happen.ensures.numbers contents _ c.deref-2.ensures.value (g.met.S.ObjectStore.lawful c.args.store.now) current c.all_happen.new.sent.items (sync_with c.args.counter contents)
    (due_with c.deref_mut.result.now c.all_happen.new.tpdos c.all_happen.ensures.numbers contents c.args.counter _ _ overflow _ _ c.all_happen.ensures.due)

pub returns-clause-after : goal.returns-clause-after
returns-clause-after g c = λ history given current.
    let table : IsTable c.deref_mut.result.now = subst (λ (ts : List Tpdo). IsTable ts) (sym c.deref_mut.ensures.value) c.self.invariant.table in
    let contents = g.S.ObjectStore.contents c.args.store.now in
    let overflow : 0 < length c.deref_mut.result.now → c.counter_overflow.result ≡ number_at contents counter_overflow_key =
    overflow_of _ _ c.deref_mut.result.now _ c.all_happen.new.tpdos history (same_timetable _ _ _ _ c.deref_mut.ensures.value c.self.view_is) given contents c.deref.result.now c.counter_overflow.result c.deref.ensures.value c.counter_overflow.ensures in
    after_occasion _ _ c.deref_mut.result.now _ c.all_happen.new.tpdos history (same_timetable _ _ _ _ c.deref_mut.ensures.value c.self.view_is) given table c.all_happen.ensures.numbers contents _ c.deref-2.ensures.value (g.met.S.ObjectStore.lawful c.args.store.now) current c.all_happen.new.sent.items (sync_with c.args.counter contents)
    (due_with c.deref_mut.result.now c.all_happen.new.tpdos c.all_happen.ensures.numbers contents c.args.counter _ _ overflow _ _ c.all_happen.ensures.due)
    (after_with c.deref_mut.result.now c.all_happen.new.tpdos c.all_happen.ensures.numbers contents c.args.counter _ _ overflow _ c.all_happen.ensures.after)
    (OnSync c.args.counter) (λ k. refl)
    _ (all_written _ c.all_happen.new.tpdos _ (omega (arith, c.deref_mut.ensures.len, c.all_happen.auto.tpdos)))

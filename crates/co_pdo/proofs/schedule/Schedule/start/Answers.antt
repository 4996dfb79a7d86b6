use Rattle.std.proofs.Common.{◌≡◌, Some, None, eqb, sym, ap, ◌∙◌}
use Rattle.std.specs.Prelude.{position}
use Rattle.co_pdo.proofs.Histories.{after_absent, own_places, start_after, log_not_started}
use Rattle.co_pdo.proofs.schedule.Schedule.start.Goals as goal

pub returns-in-Some-clause-after : goal.returns-in-Some-clause-after
returns-in-Some-clause-after g c = λ history given.
    let found : position (λ t. eqb t.number c.args.k) c.self.inside.tpdos.items.items ≡ Some c.in-Some.i = ap (position (λ t. eqb t.number c.args.k)) (sym c.deref.ensures.value) ∙ sym c.in-Some.ensures.place in
    start_after _ c.self.inside.tpdos.items.items _ _ history c.args.k c.self.view_is given c.in-Some.i c.index_mut.result.now c.start.new.self found c.index_mut.ensures.value c.start.ensures.number
    (g.S.ObjectStore.contents c.args.store.now) c.settings-settings.result c.args.part
    (c.settings-settings.ensures _ c.place_of.ensures.small (c.index.ensures ∙ own_places _ c.self.inside.tpdos.items.items _ _ history c.args.k c.self.view_is given c.in-Some.i c.index_mut.result.now c.start.new.self found c.index_mut.ensures.value c.start.ensures.number _))
    c.start.ensures.after

pub returns-in_default-clause-after : goal.returns-in_default-clause-after
returns-in_default-clause-after g c = λ history given.
    let none : position (λ t. eqb t.number c.args.k) c.self.inside.tpdos.items.items ≡ None = ap (position (λ t. eqb t.number c.args.k)) (sym c.deref.ensures.value) ∙ sym c.place_of.ensures.place ∙ c.in_default.is in
    after_absent _ c.self.inside.tpdos.items.items _ _ history c.args.k c.self.view_is given none _ (log_not_started c.args.k c.args.part (g.S.ObjectStore.contents c.args.store.now) history)

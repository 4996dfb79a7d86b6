use Rattle.std.proofs.Common.{◌≡◌, Some, None, false, eqb, sym, ap, ◌∙◌}
use Rattle.std.specs.Prelude.{position}
use Rattle.co_pdo.specs.declared.tpdo.Occasion.TheVariants.{Event}
use Rattle.co_pdo.proofs.Histories.{after_absent, lacks, absent_not_due, numbered_places, event_due, event_after, log_not_raised}
use Rattle.co_pdo.proofs.schedule.Schedule.on_event.Goals as goal

pub returns-in-Some-clause-due : goal.returns-in-Some-clause-due
returns-in-Some-clause-due g c = λ history given current.
    let found : position (λ t. eqb t.number c.args.k) c.self.inside.tpdos.items.items ≡ Some c.in-Some.i = ap (position (λ t. eqb t.number c.args.k)) (sym c.deref.ensures.value) ∙ sym c.in-Some.ensures.place in
    event_due _ c.self.inside.tpdos.items.items _ _ history c.args.k c.self.view_is given c.in-Some.i c.index_mut.result.now c.happens.new.self found c.index_mut.ensures.value c.happens.ensures.number
    (g.S.ObjectStore.contents c.args.store.now) c.happens.result c.place_of.ensures.small current
    (c.happens.ensures.due (c.index.ensures ∙ numbered_places _ c.self.inside.tpdos.items.items _ _ history c.args.k c.self.view_is given c.in-Some.i c.index_mut.result.now c.happens.new.self found c.index_mut.ensures.value c.happens.ensures.number _))

pub returns-in-Some-clause-after : goal.returns-in-Some-clause-after
returns-in-Some-clause-after g c = λ history given current.
    let found : position (λ t. eqb t.number c.args.k) c.self.inside.tpdos.items.items ≡ Some c.in-Some.i = ap (position (λ t. eqb t.number c.args.k)) (sym c.deref.ensures.value) ∙ sym c.in-Some.ensures.place in
    event_after _ c.self.inside.tpdos.items.items _ _ history c.args.k c.self.view_is given c.in-Some.i c.index_mut.result.now c.happens.new.self found c.index_mut.ensures.value c.happens.ensures.number
    (g.S.ObjectStore.contents c.args.store.now) c.happens.result c.place_of.ensures.small current
    (c.happens.ensures.after (c.index.ensures ∙ numbered_places _ c.self.inside.tpdos.items.items _ _ history c.args.k c.self.view_is given c.in-Some.i c.index_mut.result.now c.happens.new.self found c.index_mut.ensures.value c.happens.ensures.number _))

pub returns-in-None-clause-due : goal.returns-in-None-clause-due
returns-in-None-clause-due g c = λ history given current.
    let none : position (λ t. eqb t.number c.args.k) c.self.inside.tpdos.items.items ≡ None = ap (position (λ t. eqb t.number c.args.k)) (sym c.deref.ensures.value) ∙ sym c.place_of.ensures.place ∙ c.in-None.is in
    sym (absent_not_due _ (g.S.ObjectStore.contents c.args.store.now) history Event c.args.k (g.met.S.ObjectStore.lawful c.args.store.now) (lacks _ c.self.inside.tpdos.items.items _ _ history c.args.k c.self.view_is given c.place_of.ensures.small none))

pub returns-in-None-clause-after : goal.returns-in-None-clause-after
returns-in-None-clause-after g c = λ history given current.
    let none : position (λ t. eqb t.number c.args.k) c.self.inside.tpdos.items.items ≡ None = ap (position (λ t. eqb t.number c.args.k)) (sym c.deref.ensures.value) ∙ sym c.place_of.ensures.place ∙ c.in-None.is in
    after_absent _ c.self.inside.tpdos.items.items _ _ history c.args.k c.self.view_is given none _ (log_not_raised c.args.k (g.S.ObjectStore.contents c.args.store.now) false history)

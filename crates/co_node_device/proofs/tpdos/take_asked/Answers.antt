use Rattle.std.proofs.Common.{◌≡◌, ℕ, List, ◌∙◌, subst}
use Rattle.co_pdo.specs.Schedules.{IsScheduleAfter, all_due_among, with_events}
use Rattle.co_node_model.specs.Tpdos.{numbers_asked}
use Rattle.co_node_device.proofs.tpdos.take_asked.Given as given
use Rattle.co_node_device.proofs.tpdos.take_asked.Goals as goal

numbers : (g : given.Over) (c : goal.After-on_events g)
    → c.deref.result.now ≡ numbers_asked (g.S.ObjectStore.description c.args.store.now) (g.S.ObjectStore.contents c.args.store.now) c.args.asked
numbers g c = c.deref.ensures.0 ∙ c.numbers_asked.ensures

pub returns-clause-due : goal.returns-clause-due
returns-clause-due g c = λ history is current.
    subst (λ (asked : List ℕ). c.on_events.new.sent.items ≡ all_due_among asked (g.S.ObjectStore.contents c.args.store.now) history)
    (numbers g c) (c.on_events.ensures.due history is current)

pub returns-clause-after : goal.returns-clause-after
returns-clause-after g c = λ history is current.
    subst (λ (asked : List ℕ). IsScheduleAfter (g.S.ObjectStore.description c.args.store.now) c.on_events.new.self
    (with_events asked (g.S.ObjectStore.contents c.args.store.now) c.on_events.new.sent.items history))
    (numbers g c) (c.on_events.ensures.after history is current)

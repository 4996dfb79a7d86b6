use Rattle.std.proofs.Common.{◌≡◌, ◌∷◌, true, false, refl, sym, ◌∙◌, subst}
use Rattle.co_node_parts.specs.ConsumerTables.{ConsumersCall, ConsumersStand}
use Rattle.co_node_model.specs.Nmt.{is_reset}
use Rattle.co_node_device.proofs.Words.{call_at_reset, call_else}
use Rattle.co_node_device.proofs.heartbeats.watch.Goals as goal

pub returns-then-is_reset-clause-consumers : goal.returns-then-is_reset-clause-consumers
returns-then-is_reset-clause-consumers g c = λ log h.
    let reset : is_reset c.args.mark.now ≡ true = sym c.is_reset.ensures ∙ c.if-is_reset.true in
    subst (λ (call : ConsumersCall). ConsumersStand c.begin_anew.new.consumers (call ∷ log))
    (call_at_reset c.args.mark.now (g.S.ObjectStore.contents c.args.store.now) _ reset refl) (c.begin_anew.ensures log h)

pub returns-then-is_empty-clause-consumers : goal.returns-then-is_empty-clause-consumers
returns-then-is_empty-clause-consumers g c = λ log h.
    let reset : is_reset c.args.mark.now ≡ false = sym c.is_reset.ensures ∙ c.if-is_reset.false in
    subst (λ (call : ConsumersCall). ConsumersStand c.note.new.self (call ∷ log))
    (call_else c.args.mark.now (g.S.ObjectStore.contents c.args.store.now) _ reset c.consumers_event.ensures) (c.note.ensures.stands log h)

pub returns-clause-consumers : goal.returns-clause-consumers
returns-clause-consumers g c = λ log h.
    let reset : is_reset c.args.mark.now ≡ false = sym c.is_reset.ensures ∙ c.if-is_reset.false in
    subst (λ (call : ConsumersCall). ConsumersStand c.note.new.self (call ∷ log))
    (call_else c.args.mark.now (g.S.ObjectStore.contents c.args.store.now) _ reset c.consumers_event.ensures) (c.note.ensures.stands log h)

use denote.Ref.{Bor}
use Rattle.std.proofs.Common.{◌≡◌, ◌∷◌, ℕ, List, refl, ap, subst, ◌∙◌, rules}
use Rattle.co_frame.specs.declared.app_event.AppEvent.{AppEvent}
use Rattle.co_frame.specs.declared.app_event.AppEvent.TheVariants.{Write, Event, Changed, Raise, Clear}
use Rattle.co_frame.specs.AppEvents.{map_bytes}
use Rattle.conode_trace.specs.Events.{written_bytes}
use Rattle.co_node_model.specs.Inputs.{AppView, Applied, app_view, event_view}
use Rattle.co_node_model.specs.Device.{prescribed}
use Rattle.co_node.specs.Nodes.{Stands}
use Rattle.conode_device.proofs.input.apply.Goals as goal

-- with the bytes that it has an event is the same
own_bytes : (event : AppEvent (List ℕ)) → map_bytes (λ (old : List ℕ). written_bytes event) event ≡ event
own_bytes (Write key bytes) = refl
own_bytes (Event number) = refl
own_bytes (Changed key) = refl
own_bytes (Raise code bits extra) = refl
own_bytes (Clear bits) = refl

same_event : (event : AppEvent (List ℕ)) (taken : AppEvent (Bor (List ℕ))) (bytes : List ℕ) → map_bytes (λ (slice : Bor (List ℕ)). slice.now) taken ≡ map_bytes (λ (old : List ℕ). bytes) event
    → bytes ≡ written_bytes event → app_view taken ≡ event_view event
same_event event taken bytes with_these are = ap event_view (with_these ∙ ap (λ (b : List ℕ). map_bytes (λ (old : List ℕ). b) event) are ∙ own_bytes event)

pub returns-clause-frames : goal.returns-clause-frames
returns-clause-frames c k before stands =
    let bytes : c.as_slice.result.now ≡ written_bytes c.args.event.now = search rules in
    c.take_event.ensures.frames k before stands
    ∙ ap (λ (event : AppView). prescribed k before (Applied event)) (same_event c.args.event.now c.with_bytes.result c.as_slice.result.now c.with_bytes.ensures bytes)

pub returns-clause-stands : goal.returns-clause-stands
returns-clause-stands c k before stands =
    let bytes : c.as_slice.result.now ≡ written_bytes c.args.event.now = search rules in
    subst (λ (event : AppView). Stands k c.take_event.new.self (Applied event ∷ before))
    (same_event c.args.event.now c.with_bytes.result c.as_slice.result.now c.with_bytes.ensures bytes) (c.take_event.ensures.stands k before stands)

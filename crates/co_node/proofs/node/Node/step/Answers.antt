use Rattle.std.proofs.Common.{rules, ◌≡◌, ◌≤◌, ◌∷◌, length, subst}
use Rattle.co_node_model.specs.Inputs.{Applied, ChangedAt, Cleared, EventOn, InputView, Raised, Ticked, Written, input_view}
use Rattle.co_node_model.specs.Device.{frame_bound, prescribed}
use Rattle.co_node.specs.Held.{HoldsWithin}
use Rattle.co_node.specs.Nodes.{Stands}
use Rattle.co_node.proofs.node.Node.step.Goals as goal

-- the event that is handed on is the one that came
same : (c : goal.After-take_event) → Applied (Written c.in-App-Write.key c.in-App-Write.bytes.now) ≡ input_view c.args.input
same c = search rules

pub returns-in-App-Write-clause-frames : goal.returns-in-App-Write-clause-frames
returns-in-App-Write-clause-frames c = λ k before stands.
    subst (λ (v : InputView). c.take_event.new.outbox.items ≡ prescribed k before v) (same c) (c.take_event.ensures.frames k before stands)

pub returns-in-App-Write-clause-stands : goal.returns-in-App-Write-clause-stands
returns-in-App-Write-clause-stands c = λ k before stands.
    subst (λ (v : InputView). Stands k c.take_event.new.self (v ∷ before))
    (same c) (c.take_event.ensures.stands k before stands)

pub returns-in-App-Write-clause-few : goal.returns-in-App-Write-clause-few
returns-in-App-Write-clause-few c = λ k before stands.
    subst (λ (v : InputView). length c.take_event.new.outbox.items ≤ frame_bound k before v) (same c) (c.take_event.ensures.few k before stands)

pub returns-in-App-Write-clause-held : goal.returns-in-App-Write-clause-held
returns-in-App-Write-clause-held c = λ k before stands.
    subst (λ (v : InputView). HoldsWithin k (v ∷ before)) (same c) (c.take_event.ensures.held k before stands)

pub returns-in-App-Write-clause-memory : goal.returns-in-App-Write-clause-memory
returns-in-App-Write-clause-memory c = c.take_event.ensures.memory

same-event : (c : goal.After-take_event-in-App-Event) → Applied (EventOn c.in-App-Event.number) ≡ input_view c.args.input
same-event c = search rules

pub returns-in-App-Event-clause-frames : goal.returns-in-App-Event-clause-frames
returns-in-App-Event-clause-frames c = λ k before stands.
    subst (λ (v : InputView). c.take_event-in-App-Event.new.outbox.items ≡ prescribed k before v) (same-event c) (c.take_event-in-App-Event.ensures.frames k before stands)

pub returns-in-App-Event-clause-stands : goal.returns-in-App-Event-clause-stands
returns-in-App-Event-clause-stands c = λ k before stands.
    subst (λ (v : InputView). Stands k c.take_event-in-App-Event.new.self (v ∷ before)) (same-event c) (c.take_event-in-App-Event.ensures.stands k before stands)

pub returns-in-App-Event-clause-few : goal.returns-in-App-Event-clause-few
returns-in-App-Event-clause-few c = λ k before stands.
    subst (λ (v : InputView). length c.take_event-in-App-Event.new.outbox.items ≤ frame_bound k before v) (same-event c) (c.take_event-in-App-Event.ensures.few k before stands)

pub returns-in-App-Event-clause-held : goal.returns-in-App-Event-clause-held
returns-in-App-Event-clause-held c = λ k before stands.
    subst (λ (v : InputView). HoldsWithin k (v ∷ before)) (same-event c) (c.take_event-in-App-Event.ensures.held k before stands)

pub returns-in-App-Event-clause-memory : goal.returns-in-App-Event-clause-memory
returns-in-App-Event-clause-memory c = c.take_event-in-App-Event.ensures.memory

same-changed : (c : goal.After-take_event-in-App-Changed) → Applied (ChangedAt c.in-App-Changed.key) ≡ input_view c.args.input
same-changed c = search rules

pub returns-in-App-Changed-clause-frames : goal.returns-in-App-Changed-clause-frames
returns-in-App-Changed-clause-frames c = λ k before stands.
    subst (λ (v : InputView). c.take_event-in-App-Changed.new.outbox.items ≡ prescribed k before v) (same-changed c) (c.take_event-in-App-Changed.ensures.frames k before stands)

pub returns-in-App-Changed-clause-stands : goal.returns-in-App-Changed-clause-stands
returns-in-App-Changed-clause-stands c = λ k before stands.
    subst (λ (v : InputView). Stands k c.take_event-in-App-Changed.new.self (v ∷ before)) (same-changed c) (c.take_event-in-App-Changed.ensures.stands k before stands)

pub returns-in-App-Changed-clause-few : goal.returns-in-App-Changed-clause-few
returns-in-App-Changed-clause-few c = λ k before stands.
    subst (λ (v : InputView). length c.take_event-in-App-Changed.new.outbox.items ≤ frame_bound k before v) (same-changed c) (c.take_event-in-App-Changed.ensures.few k before stands)

pub returns-in-App-Changed-clause-held : goal.returns-in-App-Changed-clause-held
returns-in-App-Changed-clause-held c = λ k before stands.
    subst (λ (v : InputView). HoldsWithin k (v ∷ before)) (same-changed c) (c.take_event-in-App-Changed.ensures.held k before stands)

pub returns-in-App-Changed-clause-memory : goal.returns-in-App-Changed-clause-memory
returns-in-App-Changed-clause-memory c = c.take_event-in-App-Changed.ensures.memory

same-raise : (c : goal.After-take_event-in-App-Raise) → Applied (Raised c.in-App-Raise.code c.in-App-Raise.bits c.in-App-Raise.manufacturer) ≡ input_view c.args.input
same-raise c = search rules

pub returns-in-App-Raise-clause-frames : goal.returns-in-App-Raise-clause-frames
returns-in-App-Raise-clause-frames c = λ k before stands.
    subst (λ (v : InputView). c.take_event-in-App-Raise.new.outbox.items ≡ prescribed k before v) (same-raise c) (c.take_event-in-App-Raise.ensures.frames k before stands)

pub returns-in-App-Raise-clause-stands : goal.returns-in-App-Raise-clause-stands
returns-in-App-Raise-clause-stands c = λ k before stands.
    subst (λ (v : InputView). Stands k c.take_event-in-App-Raise.new.self (v ∷ before)) (same-raise c) (c.take_event-in-App-Raise.ensures.stands k before stands)

pub returns-in-App-Raise-clause-few : goal.returns-in-App-Raise-clause-few
returns-in-App-Raise-clause-few c = λ k before stands.
    subst (λ (v : InputView). length c.take_event-in-App-Raise.new.outbox.items ≤ frame_bound k before v) (same-raise c) (c.take_event-in-App-Raise.ensures.few k before stands)

pub returns-in-App-Raise-clause-held : goal.returns-in-App-Raise-clause-held
returns-in-App-Raise-clause-held c = λ k before stands.
    subst (λ (v : InputView). HoldsWithin k (v ∷ before)) (same-raise c) (c.take_event-in-App-Raise.ensures.held k before stands)

pub returns-in-App-Raise-clause-memory : goal.returns-in-App-Raise-clause-memory
returns-in-App-Raise-clause-memory c = c.take_event-in-App-Raise.ensures.memory

same-clear : (c : goal.After-take_event-in-App-Clear) → Applied (Cleared c.in-App-Clear.bits) ≡ input_view c.args.input
same-clear c = search rules

pub returns-in-App-Clear-clause-frames : goal.returns-in-App-Clear-clause-frames
returns-in-App-Clear-clause-frames c = λ k before stands.
    subst (λ (v : InputView). c.take_event-in-App-Clear.new.outbox.items ≡ prescribed k before v) (same-clear c) (c.take_event-in-App-Clear.ensures.frames k before stands)

pub returns-in-App-Clear-clause-stands : goal.returns-in-App-Clear-clause-stands
returns-in-App-Clear-clause-stands c = λ k before stands.
    subst (λ (v : InputView). Stands k c.take_event-in-App-Clear.new.self (v ∷ before)) (same-clear c) (c.take_event-in-App-Clear.ensures.stands k before stands)

pub returns-in-App-Clear-clause-few : goal.returns-in-App-Clear-clause-few
returns-in-App-Clear-clause-few c = λ k before stands.
    subst (λ (v : InputView). length c.take_event-in-App-Clear.new.outbox.items ≤ frame_bound k before v) (same-clear c) (c.take_event-in-App-Clear.ensures.few k before stands)

pub returns-in-App-Clear-clause-held : goal.returns-in-App-Clear-clause-held
returns-in-App-Clear-clause-held c = λ k before stands.
    subst (λ (v : InputView). HoldsWithin k (v ∷ before)) (same-clear c) (c.take_event-in-App-Clear.ensures.held k before stands)

pub returns-in-App-Clear-clause-memory : goal.returns-in-App-Clear-clause-memory
returns-in-App-Clear-clause-memory c = c.take_event-in-App-Clear.ensures.memory

same-tick : (c : goal.After-step_tick) → Ticked ≡ input_view c.args.input
same-tick c = search rules

pub returns-in-Tick-clause-frames : goal.returns-in-Tick-clause-frames
returns-in-Tick-clause-frames c = λ k before stands.
    subst (λ (v : InputView). c.step_tick.new.outbox.items ≡ prescribed k before v) (same-tick c) (c.step_tick.ensures.frames k before stands)

pub returns-in-Tick-clause-stands : goal.returns-in-Tick-clause-stands
returns-in-Tick-clause-stands c = λ k before stands.
    subst (λ (v : InputView). Stands k c.step_tick.new.self (v ∷ before)) (same-tick c) (c.step_tick.ensures.stands k before stands)

pub returns-in-Tick-clause-few : goal.returns-in-Tick-clause-few
returns-in-Tick-clause-few c = λ k before stands.
    subst (λ (v : InputView). length c.step_tick.new.outbox.items ≤ frame_bound k before v) (same-tick c) (c.step_tick.ensures.few k before stands)

pub returns-in-Tick-clause-held : goal.returns-in-Tick-clause-held
returns-in-Tick-clause-held c = λ k before stands.
    subst (λ (v : InputView). HoldsWithin k (v ∷ before)) (same-tick c) (c.step_tick.ensures.held k before stands)

pub returns-in-Tick-clause-memory : goal.returns-in-Tick-clause-memory
returns-in-Tick-clause-memory c = c.step_tick.ensures.memory

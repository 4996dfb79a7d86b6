-- What one answer makes of a client, over all events that it stands after.
use Rattle.std.proofs.Common.{◌≡◌, ℕ, true, List, ◌∷◌, refl, sym, ap, ◌∙◌, arith}
use Rattle.co_sdo_client.specs.declared.state.ClientState.TheVariants.{Waiting}
use Rattle.co_sdo_client.specs.Calls.{Call, Event, Answered, answers, since_first}
use Rattle.co_sdo_client.specs.Stages.{stage_after}
use Rattle.co_sdo_client.specs.Verdicts.{answer_verdict, verdict}
use Rattle.co_sdo_client.specs.Outcomes.{outcome}
use Rattle.co_sdo_client.specs.Standing.{Standing, ClientStands, IsWaitingAfter, waits}
use Rattle.co_sdo_client.specs.Steps.{frame_stage, frame_held, after_frame}
use Rattle.co_sdo_client.proofs.EventLemmas.{waits-is, goes_on, stands_after}
use Rattle.co_sdo_client.proofs.StageLemmas.{next_is}

frame_verdict : (call : Call) (events : List Event) (client : Standing) (frame : List ℕ) → ClientStands call events client → outcome call events ≡ Waiting
    → verdict call events (Answered frame) ≡ answer_verdict client.call client.stage client.held frame
frame_verdict call events client frame h o =
    let w : IsWaitingAfter call events client = h.waiting o in
    rw (h.same_call, w.stage, w.held) refl

pub frame_stands : (call : Call) (events : List Event) (client : Standing) (frame : List ℕ) → ClientStands call events client → waits client.state ≡ true
    → ClientStands call (Answered frame ∷ events) (after_frame (record client { left = client.call.time }) frame)
frame_stands call events client frame h t =
    let o : outcome call events ≡ Waiting = sym h.state ∙ waits-is client.state t in
    let w : IsWaitingAfter call events client = h.waiting o in
    let v : verdict call events (Answered frame) ≡ answer_verdict client.call client.stage client.held frame = frame_verdict call events client frame h o in
    stands_after call events (Answered frame) client (answer_verdict client.call client.stage client.held frame)
    (frame_stage client.call client.stage frame) (frame_held client.stage client.held frame) client.call.time h o v
    (λ g.
    let next = next_is call (since_first (answers events)) frame (ap goes_on v ∙ g) in
    record {
      stage_is = ap (λ c. frame_stage c client.stage frame) h.same_call ∙ ap (λ s. frame_stage call s frame) w.stage ∙ next.0;
      held_is = ap (λ s. frame_held s client.held frame) w.stage ∙ ap (λ b. frame_held (stage_after call events) b frame) w.held ∙ next.1;
      left_is = ap (λ c. c.time) h.same_call ∙ omega arith;
    })

-- Which emergency is sent, by the ticks since the sendings before it.
use Rattle.std.proofs.Common.{◌≡◌, ℕ, Bool, true, false, cond, List, [], ◌∷◌, Option, Some, None, refl, ap, ◌∙◌}
use Rattle.std.specs.Prelude.{◌&&◌, map, slice_get}
use Rattle.std.specs.List.{list_all}
use Rattle.co_frame.specs.declared.emergency.Emergency.{Emergency}
use Rattle.co_dict.specs.Rows.{number_at}
use Rattle.co_node_parts.specs.declared.emergencies.EmergencyEvent.TheVariants.{Empty, Tick, Quiet}
use Rattle.co_node_parts.specs.EmergencyQueues.{EmergencyLog, Noted, Sending, older, is_past, queue_of, sendings, with_queued, with_sending}
use Rattle.co_node_model.specs.Inputs.{InputView, Inputs}
use Rattle.co_profile.specs.Keys.{emergency_inhibit_key}
use Rattle.co_node_model.specs.Nmt.{is_reset}
use Rattle.co_node_model.specs.Emergencies.{may_send, unsent_log, emergency_log}
use Rattle.co_node_model.specs.Moments.{Constants, Moment}
use Rattle.co_node_model.specs.Device.{moments, state_of, contents_of}
use Rattle.co_node_model.specs.Marks.{marked_tick}
use Rattle.co_node_laws.specs.Distances.{moment_at, aged, and_sent, emergencies_sent, queued, queue_with, rest_after, waiting, emergency_by}

-- ---- sendings

sendings_kept : (es : List Emergency) (log : EmergencyLog) → sendings (with_queued es log) ≡ sendings log
sendings_kept [] log = refl
sendings_kept (e ∷ es) log = sendings_kept es _

sendings_with : (es : List Emergency) (log : EmergencyLog) (known : List Sending) → sendings log ≡ known → sendings (with_queued es log) ≡ known
sendings_with es log known is = sendings_kept es log ∙ is

sendings_noted : (reset ticked : Bool) (log : EmergencyLog) → sendings (Noted (cond reset Empty (cond ticked Tick Quiet)) ∷ log) ≡ cond reset [] (cond ticked (map older (sendings log)) (sendings log))
sendings_noted true ticked log = refl
sendings_noted false true log = refl
sendings_noted false false log = refl

sendings_sent : (o : Option Emergency) (inhibit : ℕ) (log : EmergencyLog) → sendings (with_sending o inhibit log) ≡ and_sent o inhibit (sendings log)
sendings_sent None inhibit log = refl
sendings_sent (Some e) inhibit log = refl

sendings_unsent : (m : Moment) (log : EmergencyLog) (known : List Sending) → sendings log ≡ known → sendings (unsent_log m log) ≡ aged m.mark known
sendings_unsent m log known is =
    sendings_noted (is_reset m.mark) (marked_tick m.mark) (with_queued m.raised_by_pdo (with_queued m.raised_by_loss (with_queued m.raised_by_app log)))
    ∙ ap (λ s. aged m.mark s) (sendings_with m.raised_by_pdo _ known (sendings_with m.raised_by_loss _ known (sendings_with m.raised_by_app log known is)))

pub sendings_are : (k : Constants) (inputs : Inputs) → sendings (emergency_log (moments k inputs)) ≡ emergencies_sent k inputs
sendings_are k [] = refl
sendings_are k (input ∷ inputs) =
    let m = moment_at k inputs input in
    sendings_sent m.emergency (number_at m.contents emergency_inhibit_key) (unsent_log m (emergency_log (moments k inputs)))
    ∙ ap (λ s. and_sent m.emergency (number_at m.contents emergency_inhibit_key) s) (sendings_unsent m (emergency_log (moments k inputs)) (emergencies_sent k inputs) (sendings_are k inputs))

-- ---- the queue

queue_queued : (es : List Emergency) (log : EmergencyLog) → queue_of (with_queued es log) ≡ queued es (queue_of log)
queue_queued [] log = refl
queue_queued (e ∷ es) log = queue_queued es _

queue_noted : (reset ticked : Bool) (log : EmergencyLog) → queue_of (Noted (cond reset Empty (cond ticked Tick Quiet)) ∷ log) ≡ cond reset [] (queue_of log)
queue_noted true ticked log = refl
queue_noted false true log = refl
queue_noted false false log = refl

queue_sent : (o : Option Emergency) (inhibit : ℕ) (log : EmergencyLog) → queue_of (with_sending o inhibit log) ≡ rest_after o (queue_of log)
queue_sent None inhibit log = refl
queue_sent (Some e) inhibit log = refl

queue_unsent : (m : Moment) (log : EmergencyLog) (known : List Emergency) → queue_of log ≡ known → queue_of (unsent_log m log) ≡ queue_with m known
queue_unsent m log known is =
    let app = with_queued m.raised_by_app log in
    let loss = with_queued m.raised_by_loss app in
    queue_noted (is_reset m.mark) (marked_tick m.mark) (with_queued m.raised_by_pdo loss)
    ∙ ap (λ q. cond (is_reset m.mark) [] q)
    (queue_queued m.raised_by_pdo loss ∙ ap (queued m.raised_by_pdo) (queue_queued m.raised_by_loss app ∙ ap (queued m.raised_by_loss) (queue_queued m.raised_by_app log ∙ ap (queued m.raised_by_app) is)))

pub queue_is : (k : Constants) (inputs : Inputs) → queue_of (emergency_log (moments k inputs)) ≡ waiting k inputs
queue_is k [] = refl
queue_is k (input ∷ inputs) =
    let m = moment_at k inputs input in
    queue_sent m.emergency (number_at m.contents emergency_inhibit_key) (unsent_log m (emergency_log (moments k inputs)))
    ∙ ap (rest_after m.emergency) (queue_unsent m (emergency_log (moments k inputs)) (waiting k inputs) (queue_is k inputs))

-- ---- what is sent

pub sent_is : (k : Constants) (inputs : Inputs) (input : InputView) → (moment_at k inputs input).emergency ≡ emergency_by k inputs input
sent_is k inputs input =
    let m = moment_at k inputs input in
    let log = unsent_log m (emergency_log (moments k inputs)) in
    let may = may_send m.mark (state_of k (input ∷ inputs)) (contents_of k (input ∷ inputs)) in
    ap (λ s. cond (may && list_all is_past s) (slice_get (queue_of log) 0) None) (sendings_unsent m (emergency_log (moments k inputs)) (emergencies_sent k inputs) (sendings_are k inputs))
    ∙ ap (λ q. cond (may && list_all is_past (aged m.mark (emergencies_sent k inputs))) (slice_get q 0) None) (queue_unsent m (emergency_log (moments k inputs)) (waiting k inputs) (queue_is k inputs))

-- The device's own heartbeat, by the ticks since it began.
use Rattle.std.proofs.Common.{◌≡◌, ℕ, ◌+◌, ◌%◌, Bool, true, false, cond, [], ◌∷◌, Some, None, refl, ap, ◌∙◌}
use Rattle.std.specs.Prelude.{◌==◌, ◌&&◌, nat_lt}
use Rattle.co_frame.specs.declared.heartbeat.Heartbeat.TheVariants.{BootUp}
use Rattle.co_dict.specs.Rows.{number_at}
use Rattle.co_profile.specs.Keys.{producer_key}
use Rattle.co_node_parts.specs.declared.heartbeat_producer.ProducerEvent.TheVariants as producer
use Rattle.co_node_parts.specs.NmtStates.{heartbeat_of}
use Rattle.co_node_parts.specs.Producers.{ProducerLog, period_of, ticks, is_heartbeat_due}
use Rattle.co_node_model.specs.Inputs.{InputView, Inputs, Ticked}
use Rattle.co_node_model.specs.Nmt.{is_reset}
use Rattle.co_node_model.specs.Heartbeats.{life_of, producer_event, producer_log}
use Rattle.co_node_model.specs.Moments.{Constants}
use Rattle.co_node_model.specs.Device.{moments, state_of}
use Rattle.co_node_model.specs.Marks.{marked_tick}
use Rattle.co_node_laws.specs.Kinds.{is_tick}
use Rattle.co_node_laws.proofs.Ticks.{ticked_is}
use Rattle.co_node_laws.specs.Distances.{moment_at, begins_heartbeat, heartbeat_period, heartbeat_ticks, heartbeat_at_tick}

period_by : (begins ticked : Bool) (n : ℕ) (log : ProducerLog) → period_of (cond begins (producer.Begin n) (cond ticked producer.Tick producer.Quiet) ∷ log) ≡ cond begins n (period_of log)
period_by true ticked n log = refl
period_by false true n log = refl
period_by false false n log = refl

ticks_by : (begins ticked : Bool) (n : ℕ) (log : ProducerLog) → ticks (cond begins (producer.Begin n) (cond ticked producer.Tick producer.Quiet) ∷ log) ≡ cond begins 0 (cond ticked (ticks log + 1) (ticks log))
ticks_by true ticked n log = refl
ticks_by false true n log = refl
ticks_by false false n log = refl

pub period_is : (k : Constants) (inputs : Inputs) → period_of (producer_log k (moments k inputs)) ≡ heartbeat_period k inputs
period_is k [] = refl
period_is k (input ∷ inputs) =
    let m = moment_at k inputs input in
    period_by (begins_heartbeat m.mark) (marked_tick m.mark) (number_at m.contents producer_key) (producer_log k (moments k inputs))
    ∙ ap (λ n. cond (begins_heartbeat m.mark) (number_at m.contents producer_key) n) (period_is k inputs)

pub ticks_are : (k : Constants) (inputs : Inputs) → ticks (producer_log k (moments k inputs)) ≡ heartbeat_ticks k inputs
ticks_are k [] = refl
ticks_are k (input ∷ inputs) =
    let m = moment_at k inputs input in
    ticks_by (begins_heartbeat m.mark) (marked_tick m.mark) (number_at m.contents producer_key) (producer_log k (moments k inputs))
    ∙ ap (λ n. cond (begins_heartbeat m.mark) 0 (cond (marked_tick m.mark) (n + 1) n)) (ticks_are k inputs)

pub at_tick : (k : Constants) (inputs : Inputs) → (moment_at k inputs Ticked).life ≡ heartbeat_at_tick k inputs
at_tick k inputs =
    ap (λ period. cond (nat_lt 0 period && (ticks (producer_log k (moments k inputs)) + 1) % period == 0) (Some (heartbeat_of (state_of k (Ticked ∷ inputs)))) None) (period_is k inputs)
    ∙ ap (λ n. cond (nat_lt 0 (heartbeat_period k inputs) && (n + 1) % heartbeat_period k inputs == 0) (Some (heartbeat_of (state_of k (Ticked ∷ inputs)))) None) (ticks_are k inputs)

none_by : (begins : Bool) (n : ℕ) (log : ProducerLog) → is_heartbeat_due (cond begins (producer.Begin n) producer.Quiet) log ≡ false
none_by true n log = refl
none_by false n log = refl

pub elsewhere : (k : Constants) (inputs : Inputs) (input : InputView) → is_tick input ≡ false → is_reset (moment_at k inputs input).mark ≡ false → (moment_at k inputs input).life ≡ None
elsewhere k inputs input off reset =
    let m = moment_at k inputs input in
    let ticked : marked_tick m.mark ≡ false = ticked_is k inputs input ∙ off in
    let event = λ (t : Bool). cond (begins_heartbeat m.mark) (producer.Begin (number_at m.contents producer_key)) (cond t producer.Tick producer.Quiet) in
    ap (λ t. life_of m.mark (state_of k (input ∷ inputs)) (is_heartbeat_due (event t) (producer_log k (moments k inputs)))) ticked
    ∙ ap (λ due. life_of m.mark (state_of k (input ∷ inputs)) due) (none_by (begins_heartbeat m.mark) (number_at m.contents producer_key) (producer_log k (moments k inputs)))
    ∙ ap (λ b. cond b (Some BootUp) None) reset

pub at_reset : (k : Constants) (inputs : Inputs) (input : InputView) → is_reset (moment_at k inputs input).mark ≡ true → (moment_at k inputs input).life ≡ Some BootUp
at_reset k inputs input reset =
    let m = moment_at k inputs input in
    ap (λ b. cond b (Some BootUp) (cond (is_heartbeat_due (producer_event m.mark m.contents) (producer_log k (moments k inputs))) (Some (heartbeat_of (state_of k (input ∷ inputs)))) None)) reset

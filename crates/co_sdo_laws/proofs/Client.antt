-- One more event at a client that waits, by its verdict.
use Rattle.std.proofs.Common.{◌≡◌, ℕ, ◌+◌, false, List, [], ◌∷◌, length, Option, refl, ap, arith, length-append}
use Rattle.co_sdo_client.specs.declared.state.ClientState.TheVariants.{Waiting, Done}
use Rattle.co_sdo_client.specs.Calls.{Call, Event, Answered, Ticked, answers, Answers, since_first, is_time_over}
use Rattle.co_sdo_client.specs.Stages.{stage_since, held_since}
use Rattle.co_sdo_client.specs.Verdicts.{Verdict, GoesOn, verdict, answer_verdict}
use Rattle.co_sdo_client.specs.Outcomes.{state_by, messages_by, value_by, outcome, asked, sent, result}

-- what a verdict makes of a client that waits
pub record Follows (call : Call) (older : List Event) (event : Event) (v : Verdict) : Type 0 where
  pub state : outcome call (event ∷ older) ≡ state_by v
  pub messages : asked call (event ∷ older) ≡ messages_by call v
  pub count : sent call (event ∷ older) ≡ sent call older + length (messages_by call v)
  pub value : result call (event ∷ older) ≡ value_by v

pub follows : (call : Call) (older : List Event) (event : Event) (v : Verdict) → outcome call older ≡ Waiting → verdict call older event ≡ v → Follows call older event v
follows call older event v waits is = record {
  state = rw (waits, is) refl;
  messages = rw (waits, is) refl;
  count = rw (waits, is, length-append) refl;
  value = rw (waits, is) refl;
}

-- a client that is done stays as it is
pub record Stays (call : Call) (older : List Event) (event : Event) : Type 0 where
  pub state : outcome call (event ∷ older) ≡ Done
  pub messages : asked call (event ∷ older) ≡ []
  pub count : sent call (event ∷ older) ≡ sent call older
  pub value : result call (event ∷ older) ≡ result call older

pub stays : (call : Call) (older : List Event) (event : Event) → outcome call older ≡ Done → Stays call older event
stays call older event done = record {
  state = rw done refl;
  messages = rw done refl;
  count = rw (done, length-append) (omega arith);
  value = rw done refl;
}

-- a tick before the time is over
pub tick_verdict : (call : Call) (older : List Event) → is_time_over call.time (Ticked ∷ older) ≡ false → verdict call older Ticked ≡ GoesOn []
tick_verdict call older h = rw h refl

-- an answer, by what the client has taken
pub verdict_since : (call : Call) (events : List Event) (frame : List ℕ) (a : Option Answers) → since_first (answers events) ≡ a
    → verdict call events (Answered frame) ≡ answer_verdict call (stage_since call a) (held_since call a) frame
verdict_since call events frame a h =
    ap (λ (x : Option Answers). answer_verdict call (stage_since call x) (held_since call x) frame) h

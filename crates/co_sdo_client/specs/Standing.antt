-- A client as contracts see it, and when it is in the state after events.
use Rattle.std.specs.Prelude.{◌≡◌, ℕ, ◌-◌, ◌^◌, ◌==◌, ◌&&◌, Bool, true, false, min, List, [], ◌∷◌, length, if◌then◌else◌}
use Rattle.co_frame.specs.FrameContent.{FrameContent}
use Rattle.co_sdo_client.specs.declared.stage.Stage.{Stage}
use Rattle.co_sdo_client.specs.declared.stage.Stage.TheVariants.{Begun}
use Rattle.co_sdo_client.specs.declared.state.ClientState.{ClientState}
use Rattle.co_sdo_client.specs.declared.state.ClientState.TheVariants.{Waiting, Done}
use Rattle.co_sdo_client.specs.Calls.{Call, Message, Event, Answered, ticks_quiet}
use Rattle.co_sdo_client.specs.Stages.{stage_after, held_after}
use Rattle.co_sdo_client.specs.Outcomes.{outcome, asked_by, sent, result}

-- what contracts see of a client: its identifiers and its call, whether it has begun, its state,
-- the progress of the transfer, the bytes of an upload so far, what is left of the SDO timeout (in
-- ms), and how many frames it has sent
pub record Standing : Type 0 where
  pub request : ℕ
  pub answer : ℕ
  pub call : Call
  pub begun : Bool
  pub state : ClientState
  pub stage : Stage
  pub held : List ℕ
  pub left : ℕ
  pub sent : ℕ

-- the count of frames saturates at 2^64 - 1
abbrev pub counted : ℕ → ℕ
counted count = min count (2 ^ 64 - 1)

-- the bytes are shown once the transfer is done
abbrev pub shown_by : ClientState → List ℕ → List ℕ
shown_by Done held = held
shown_by _ held = []

-- the transfer goes on
abbrev pub waits : ClientState → Bool
waits Waiting = true
waits _ = false

-- a client that has not begun
pub record IsReady (call : Call) (client : Standing) : Type 0 where
  pub same_call : client.call ≡ call
  pub begun : client.begun ≡ false
  pub state : client.state ≡ Waiting
  pub stage : client.stage ≡ Begun
  pub held : client.held ≡ []
  pub sent : client.sent ≡ 0

-- while a client waits: its progress, the bytes held, and what is left of its time
pub record IsWaitingAfter (call : Call) (events : List Event) (client : Standing) : Type 0 where
  pub stage : client.stage ≡ stage_after call events
  pub held : client.held ≡ held_after call events
  pub left : client.left ≡ call.time - ticks_quiet events

-- a client that has begun is in the state after events
pub record ClientStands (call : Call) (events : List Event) (client : Standing) : Type 0 where
  pub same_call : client.call ≡ call
  pub begun : client.begun ≡ true
  pub state : client.state ≡ outcome call events
  pub waiting : outcome call events ≡ Waiting → IsWaitingAfter call events client
  pub shown : shown_by client.state client.held ≡ result call events
  pub sent : client.sent ≡ counted (sent call events)

-- ---- one frame: those that are no answers to the client are ignored

-- a frame is an answer: eight bytes on the answer identifier
abbrev pub is_answer_on : ℕ → FrameContent → Bool
is_answer_on id frame = (frame.id == id) && (length frame.bytes == 8)

-- the events after a frame
abbrev pub events_with : ℕ → List Event → FrameContent → List Event
events_with id events frame = if is_answer_on id frame then Answered frame.bytes ∷ events else events

-- what the client sends at a frame
abbrev pub asked_with : ℕ → Call → List Event → FrameContent → List Message
asked_with id call events frame = if is_answer_on id frame then asked_by call events (Answered frame.bytes) else []

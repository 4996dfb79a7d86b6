-- Node guarding (CiA 301, 7.2.8.3.2.1), as the guarding requests for a node and its frames of error control show it.
use Rattle.std.specs.Prelude.{ℕ, Bool, true, false, nat_lt, if◌then◌else◌, List, [], ◌∷◌, Option, Some, None, is_some}
use Rattle.conode_stats_counts.specs.declared.guarding.ErrorControl.{ErrorControl}
use Rattle.conode_stats_counts.specs.declared.guarding.ErrorControl.TheVariants.{Nothing, Heartbeat, AskedHeartbeat, TimedHeartbeat, Requested, Answer}
use Rattle.conode_stats_counts.specs.declared.guarding.Guarding.{Guarding}
use Rattle.conode_stats_counts.specs.declared.state.NmtState.TheVariants.{BootUp}
use Rattle.conode_stats_counts.specs.States.{NodeEvent, Commanded, Sent, Exchanged, Timed, Asked, same_state}

-- ---- requests

-- the older one
abbrev pub first_asked : Option ℕ → ℕ → Option ℕ
first_asked None micros = Some micros
first_asked (Some first) micros = Some first

-- the stamp of the first request that no frame of error control followed
unfoldable pub unanswered : List NodeEvent → Option ℕ
unanswered [] = None
unanswered (Commanded ∷ older) = unanswered older
unanswered (Exchanged frame micros ∷ older) = unanswered older
unanswered (Timed direction time micros ∷ older) = unanswered older
unanswered (Asked micros ∷ older) = first_asked (unanswered older) micros
unanswered (Sent state toggle micros ∷ older) = None

-- ---- heartbeats and answers

-- What a frame with this toggle bit is, after one before it; whether a request came between them. A heartbeat
-- has the toggle bit 0, and an answer another one than the answer before it. Without the toggle bit a frame is
-- an answer where the one before has it; a heartbeat while the node is known to send them, and where no request
-- came. One request among heartbeats may be for nothing: the frame after it is a heartbeat too. Else it may be
-- an answer.
abbrev pub control_by : Bool → Bool → ErrorControl → ErrorControl
control_by true asked before = Answer true
control_by false asked (Answer true) = Answer false
control_by false asked TimedHeartbeat = TimedHeartbeat
control_by false false before = Heartbeat
control_by false true Heartbeat = AskedHeartbeat
control_by false true before = Requested

-- a boot-up: the first answer after it has the toggle bit 0
abbrev pub control_booted : ErrorControl → ErrorControl
control_booted (Answer toggle) = Answer false
control_booted before = before

-- a node that sends no heartbeats
abbrev pub without_heartbeats : ErrorControl → ErrorControl
without_heartbeats Heartbeat = Nothing
without_heartbeats AskedHeartbeat = Nothing
without_heartbeats TimedHeartbeat = Nothing
without_heartbeats before = before

-- once its producer heartbeat time is known: with another than 0 it sends heartbeats (CiA 301, 7.2.8.3.2.2)
abbrev pub control_timed : ℕ → ErrorControl → ErrorControl
control_timed time before = if nat_lt 0 time then TimedHeartbeat else without_heartbeats before

-- what the newest frame of error control is; a boot-up message is none
unfoldable pub control_of : List NodeEvent → ErrorControl
control_of [] = Nothing
control_of (Commanded ∷ older) = control_of older
control_of (Exchanged frame micros ∷ older) = control_of older
control_of (Timed direction time micros ∷ older) = control_timed time (control_of older)
control_of (Asked micros ∷ older) = control_of older
control_of (Sent state toggle micros ∷ older) =
    if same_state state BootUp then control_booted (control_of older)
    else control_by toggle (is_some (unanswered older)) (control_of older)

-- the whole
abbrev pub guarding_of : List NodeEvent → Guarding
guarding_of log = record { control = control_of log; asked = unanswered log }

-- ---- one event more, as it is counted

-- a request
abbrev pub asked_with : ℕ → Guarding → Guarding
asked_with micros guarding = record guarding { asked = first_asked guarding.asked micros }

-- a frame of error control, which may be a boot-up message, with this toggle bit
abbrev pub answered_with : Bool → Bool → Guarding → Guarding
answered_with boots toggle guarding = record {
  control = if boots then control_booted guarding.control else control_by toggle (is_some guarding.asked) guarding.control;
  asked = None;
}

-- a transfer that shows the producer heartbeat time
abbrev pub timed_with : ℕ → Guarding → Guarding
timed_with time guarding = record guarding { control = control_timed time guarding.control }

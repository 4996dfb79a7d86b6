-- The queue of emergencies, and when its front is sent (CiA 301, 7.2.7, 7.5.2.17 and 7.5.2.18).
-- A tick is 1 ms.
use Rattle.std.specs.Prelude.{◌≡◌, ℕ, zero, suc, ◌+◌, ◌-◌, ◌&&◌, Bool, max, List, [], ◌∷◌, ◌++◌, drop, map, slice_get, Option, Some, None, if◌then◌else◌}
use Rattle.std.specs.List.{list_all}
use Rattle.circular_buffer.specs.Buffer.{keep_last}
use Rattle.co_frame.specs.InhibitTimes.{in_ms, has_elapsed}
use Rattle.co_frame.specs.declared.emergency.Emergency.{Emergency}
use Rattle.co_node_parts.specs.declared.emergencies.EmergencyEvent.{EmergencyEvent}
use Rattle.co_node_parts.specs.declared.emergencies.EmergencyEvent.TheVariants.{Queue, Empty, Tick, Quiet}

-- an entry of the log
pub data EmergencyEntry : Type 0 where
  Noted : EmergencyEvent → EmergencyEntry
  -- the front was sent, with the inhibit time in 100 µs as it was then
  Sent : ℕ → EmergencyEntry

-- the newest first
abbrev pub EmergencyLog : Type 0
EmergencyLog = List EmergencyEntry

-- the queue, oldest first: at most eight; a ninth overwrites the oldest, a sending takes the
-- oldest, and a reset empties it
abbrev pub queue_of : EmergencyLog → List Emergency
queue_of [] = []
queue_of (Noted (Queue emergency) ∷ log) = keep_last 8 (queue_of log ++ emergency ∷ [])
queue_of (Noted Empty ∷ log) = []
queue_of (Noted Tick ∷ log) = queue_of log
queue_of (Noted Quiet ∷ log) = queue_of log
queue_of (Sent inhibit ∷ log) = drop 1 (queue_of log)

-- a sending: how many ticks ago it was, and the inhibit time in 100 µs as it was then
pub record Sending : Type 0 where
  pub age : ℕ
  pub inhibit : ℕ

-- one tick later
abbrev pub older : Sending → Sending
older s = record { age = s.age + 1; inhibit = s.inhibit }

-- the sendings since the last reset, the newest first
abbrev pub sendings : EmergencyLog → List Sending
sendings [] = []
sendings (Noted (Queue emergency) ∷ log) = sendings log
sendings (Noted Empty ∷ log) = []
sendings (Noted Tick ∷ log) = map older (sendings log)
sendings (Noted Quiet ∷ log) = sendings log
sendings (Sent inhibit ∷ log) = record { age = 0; inhibit = inhibit } ∷ sendings log

-- the inhibit time of a sending has elapsed
abbrev pub is_past : Sending → Bool
is_past s = has_elapsed s.inhibit s.age

-- the inhibit time of each sending since the last reset has elapsed
abbrev pub is_inhibit_over : EmergencyLog → Bool
is_inhibit_over log = list_all is_past (sendings log)

-- the emergency due after this log: the front of the queue, if it may be sent and the inhibit time
-- is over
abbrev pub emergency_due : Bool → EmergencyLog → Option Emergency
emergency_due may log = if may && is_inhibit_over log then slice_get (queue_of log) 0 else None

-- the log after that sending, if any
abbrev pub with_sending : Option Emergency → ℕ → EmergencyLog → EmergencyLog
with_sending None inhibit log = log
with_sending (Some emergency) inhibit log = Sent inhibit ∷ log

-- no emergency is due after any of the next `n` ticks, if one may be sent or not throughout
abbrev pub NoneSentFor : Bool → ℕ → EmergencyLog → Type 0
NoneSentFor may zero log = Unit {0}
NoneSentFor may (suc n) log = (emergency_due may (Noted Tick ∷ log) ≡ None) × NoneSentFor may n (Noted Tick ∷ log)

-- the log after several were queued, in order
abbrev pub with_queued : List Emergency → EmergencyLog → EmergencyLog
with_queued [] log = log
with_queued (emergency ∷ emergencies) log =
    with_queued emergencies (Noted (Queue emergency) ∷ log)

-- ticks until the inhibit time of each of these sendings has elapsed
abbrev pub inhibit_left : List Sending → ℕ
inhibit_left [] = 0
inhibit_left (s ∷ older) = max (in_ms s.inhibit - s.age) (inhibit_left older)

-- the state of the part: the queue, and how many ticks are left until the front may be sent
pub record Pending : Type 0 where
  pub queue : List Emergency
  pub left : ℕ

-- the part is in the state after this log
pub record EmergenciesStand (pending : Pending) (log : EmergencyLog) : Type 0 where
  pub queue : pending.queue ≡ queue_of log
  pub left : pending.left ≡ inhibit_left (sendings log)

-- When the heartbeat of another node is lost, for one entry of 1016h (CiA 301, 7.2.8.3.2 and
-- 7.5.2.19). A tick is 1 ms.
use Rattle.std.specs.Prelude.{◌≡◌, ℕ, zero, suc, ◌+◌, ◌-◌, ◌/◌, ◌%◌, ◌==◌, ◌&&◌, Bool, false, nat_lt, nat_le, if◌then◌else◌, Option, Some, None, List, [], ◌∷◌}
use Rattle.co_node_parts.specs.declared.heartbeat_consumer.Monitored.{Monitored}
use Rattle.co_node_parts.specs.declared.heartbeat_consumer.ConsumerEvent.{ConsumerEvent}
use Rattle.co_node_parts.specs.declared.heartbeat_consumer.ConsumerEvent.TheVariants.{Begin, Heard, Tick, Quiet}
use Rattle.co_node_parts.specs.declared.heartbeat_consumer.HeartbeatConsumer.{HeartbeatConsumer}

-- the events of an entry, newest first
abbrev pub ConsumerLog : Type 0
ConsumerLog = List ConsumerEvent

-- the time in ms: bits 15 to 0
abbrev pub time_in : ℕ → ℕ
time_in word = word % 0x10000

-- the node-ID: bits 23 to 16; bits 31 to 24 are ignored
abbrev pub node_in : ℕ → ℕ
node_in word = word / 0x10000 % 0x100

-- the entry is used: its time is above 0, and its node-ID is 1 to 127
abbrev pub is_used : ℕ → Bool
is_used word = nat_lt 0 (time_in word) && (nat_le 1 (node_in word) && nat_le (node_in word) 127)

-- what an entry with this word monitors; nothing if it is not used
abbrev pub monitored_by : ℕ → Option Monitored
monitored_by word =
    if is_used word then Some (record { node = node_in word; time = time_in word }) else None

-- what is monitored since the last begin
abbrev pub monitored_after : ConsumerLog → Option Monitored
monitored_after [] = None
monitored_after (Begin word ∷ log) = monitored_by word
monitored_after (Heard node ∷ log) = monitored_after log
monitored_after (Tick ∷ log) = monitored_after log
monitored_after (Quiet ∷ log) = monitored_after log

-- this node is the monitored one
abbrev pub is_monitored : ℕ → Option Monitored → Bool
is_monitored node None = false
is_monitored node (Some m) = node == m.node

-- one tick more
abbrev pub later : Option ℕ → Option ℕ
later None = None
later (Some n) = Some (n + 1)

-- how many ticks came since the last heartbeat of the monitored node; `None` if none came since the
-- last begin
abbrev pub silence : ConsumerLog → Option ℕ
silence [] = None
silence (Begin word ∷ log) = None
silence (Heard node ∷ log) =
    if is_monitored node (monitored_after log) then Some 0 else silence log
silence (Tick ∷ log) = later (silence log)
silence (Quiet ∷ log) = silence log

-- a time is the monitored one
abbrev pub is_time : ℕ → Option Monitored → Bool
is_time n None = false
is_time n (Some m) = n == m.time

-- one more tick after these makes exactly the time
abbrev pub is_over_after : Option ℕ → Option Monitored → Bool
is_over_after None m = false
is_over_after (Some n) m = is_time (n + 1) m

-- the heartbeat is lost at the tick at which exactly its time has elapsed since the last one
abbrev pub is_lost : ConsumerEvent → ConsumerLog → Bool
is_lost (Begin word) log = false
is_lost (Heard node) log = false
is_lost Tick log = is_over_after (silence log) (monitored_after log)
is_lost Quiet log = false

-- the heartbeat is not lost at any of the next `n` ticks
abbrev pub NotLostFor : ℕ → ConsumerLog → Type 0
NotLostFor zero log = Unit {0}
NotLostFor (suc n) log = (is_lost Tick log ≡ false) × NotLostFor n (Tick ∷ log)

-- what is left of the monitored time after these ticks without a heartbeat; 0 while it doesn't run
abbrev pub time_left : Option ℕ → Option Monitored → ℕ
time_left None m = 0
time_left (Some n) None = 0
time_left (Some n) (Some m) = m.time - n

-- an entry is in the state after this log
pub record ConsumerStands (consumer : HeartbeatConsumer) (log : ConsumerLog) : Type 0 where
  pub monitored : consumer.monitored ≡ monitored_after log
  pub left : consumer.left ≡ time_left (silence log) (monitored_after log)

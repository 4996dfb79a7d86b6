-- When the heartbeat producer is due, by the ticks of its log (CiA 301, 7.2.8.3.2 and 7.5.2.20).
-- A tick is 1 ms.
use Rattle.std.specs.Prelude.{◌≡◌, ℕ, zero, suc, ◌+◌, ◌-◌, ◌%◌, ◌==◌, ◌&&◌, Bool, false, nat_lt, List, [], ◌∷◌}
use Rattle.co_node_parts.specs.declared.heartbeat_producer.ProducerEvent.{ProducerEvent}
use Rattle.co_node_parts.specs.declared.heartbeat_producer.ProducerEvent.TheVariants.{Begin, Tick, Quiet}

-- the events, newest first
abbrev pub ProducerLog : Type 0
ProducerLog = List ProducerEvent

-- the period in ms of the last begin, 0 before any
abbrev pub period_of : ProducerLog → ℕ
period_of [] = 0
period_of (Begin period ∷ log) = period
period_of (Tick ∷ log) = period_of log
period_of (Quiet ∷ log) = period_of log

-- how many ticks came since the last begin
abbrev pub ticks : ProducerLog → ℕ
ticks [] = 0
ticks (Begin period ∷ log) = 0
ticks (Tick ∷ log) = ticks log + 1
ticks (Quiet ∷ log) = ticks log

-- a heartbeat is due at each tick whose number since the last begin is a multiple of the period;
-- never if the period is 0
abbrev pub is_heartbeat_due : ProducerEvent → ProducerLog → Bool
is_heartbeat_due (Begin period) log = false
is_heartbeat_due Tick log = nat_lt 0 (period_of log) && (ticks log + 1) % period_of log == 0
is_heartbeat_due Quiet log = false

-- no heartbeat is due at any of the next `n` ticks
abbrev pub NoneDueFor : ℕ → ProducerLog → Type 0
NoneDueFor zero log = Unit {0}
NoneDueFor (suc n) log = (is_heartbeat_due Tick log ≡ false) × NoneDueFor n (Tick ∷ log)

-- what a producer counts: the period, and how many ticks are left to the next heartbeat
pub record Producer : Type 0 where
  pub period : ℕ
  pub left : ℕ

-- a producer is in the state after this log
pub record ProducerStands (producer : Producer) (log : ProducerLog) : Type 0 where
  pub period : producer.period ≡ period_of log
  pub left : producer.left ≡ producer.period - ticks log % producer.period

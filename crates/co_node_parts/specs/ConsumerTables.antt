-- All entries 1 to 127 of 1016h, and which of them lose their heartbeat (CiA 301, 7.5.2.19).
use Rattle.std.specs.Prelude.{◌≡◌, ℕ, zero, suc, ◌+◌, ◌-◌, ◌<◌, ◌≤◌, ◌==◌, if◌then◌else◌, None, List, [], ◌∷◌, length, map, slice_index}
use Rattle.std.specs.List.{filter, range_with_len, slice_index_or}
use Rattle.co_node_parts.specs.declared.heartbeat_consumer.ConsumerEvent.{ConsumerEvent}
use Rattle.co_node_parts.specs.declared.heartbeat_consumer.ConsumerEvent.TheVariants as one
use Rattle.co_node_parts.specs.declared.heartbeat_consumer.HeartbeatConsumer.{HeartbeatConsumer}
use Rattle.co_node_parts.specs.declared.heartbeat_consumers.ConsumersEvent.{ConsumersEvent}
use Rattle.co_node_parts.specs.declared.heartbeat_consumers.ConsumersEvent.TheVariants.{Begin, Heard, Tick, Quiet}
use Rattle.co_node_parts.specs.Consumers.{ConsumerLog, ConsumerStands, NotLostFor, is_lost}

-- one call for all entries
pub data ConsumersCall : Type 0 where
  Noted : ConsumersEvent → ConsumersCall
  -- all began, entry 1 with the first of these words; those past the last word are not used
  AllBegun : List ℕ → ConsumersCall

-- the newest first
abbrev pub ConsumersLog : Type 0
ConsumersLog = List ConsumersCall

-- the event of the entry with a sub-index at a call: a begin is one of the named entry alone, any
-- other call of each entry
abbrev pub event_of : ℕ → ConsumersCall → ConsumerEvent
event_of sub (Noted (Begin begun word)) = if sub == begun then one.Begin word else one.Quiet
event_of sub (Noted (Heard node)) = one.Heard node
event_of sub (Noted Tick) = one.Tick
event_of sub (Noted Quiet) = one.Quiet
event_of sub (AllBegun words) = one.Begin (slice_index words (sub - 1))

-- the log of the entry with a sub-index
abbrev pub entry_log : ℕ → ConsumersLog → ConsumerLog
entry_log sub log = map (event_of sub) log

-- the sub-indices of the entries, increasing
unfoldable pub entry_subs : List ℕ
entry_subs = range_with_len 1 127

-- the sub-indices of those that lose their heartbeat at an event after this log, increasing
abbrev pub lost_at : ConsumersEvent → ConsumersLog → List ℕ
lost_at event log =
    filter (λ sub. is_lost (event_of sub (Noted event)) (entry_log sub log)) entry_subs

-- no heartbeat is lost at any of the next `n` ticks
abbrev pub NoneLostFor : ℕ → ConsumersLog → Type 0
NoneLostFor zero log = Unit {0}
NoneLostFor (suc n) log = (lost_at Tick log ≡ []) × NoneLostFor n (Noted Tick ∷ log)

-- none of the first `count` entries loses its heartbeat at any of the next `n` ticks; the first has
-- sub-index 1
abbrev pub AreKeptFor : ℕ → ℕ → (ℕ → ConsumerLog) → Type 0
AreKeptFor n count logs = (i : ℕ) → i < count → NotLostFor n (logs (i + 1))

-- each of these entries is in the state after its log; the first has sub-index 1
abbrev pub AllStand : List HeartbeatConsumer → (ℕ → ConsumerLog) → Type 0
AllStand entries logs = (i : ℕ) (d : HeartbeatConsumer) → i < length entries
    → ConsumerStands (slice_index_or entries i d) (logs (i + 1))

-- there are 127 entries, and each is in the state after its log
pub record ConsumersStand (entries : List HeartbeatConsumer) (log : ConsumersLog) : Type 0 where
  pub count : length entries ≡ 127
  pub all : AllStand entries (λ sub. entry_log sub log)

-- no entry from this place on monitors a node
abbrev pub AreIdleFrom : ℕ → List HeartbeatConsumer → Type 0
AreIdleFrom used entries = (i : ℕ) (d : HeartbeatConsumer) → used ≤ i → i < length entries
    → (slice_index_or entries i d).monitored ≡ None

-- an event doesn't concern an entry: a begin may concern any, another event only those that monitor
-- a node
abbrev pub IsPassed : ConsumersEvent → HeartbeatConsumer → Type 0
IsPassed (Begin sub word) entry = ⊥
IsPassed (Heard node) entry = entry.monitored ≡ None
IsPassed Tick entry = entry.monitored ≡ None
IsPassed Quiet entry = entry.monitored ≡ None

-- an event doesn't concern any entry from this place on
abbrev pub ArePassedFrom : ConsumersEvent → ℕ → List HeartbeatConsumer → Type 0
ArePassedFrom event used entries = (i : ℕ) (d : HeartbeatConsumer) → used ≤ i → i < length entries
    → IsPassed event (slice_index_or entries i d)

use Rattle.std.proofs.Common.{◌≡◌, ℕ, ◌+◌, ◌<◌, ◌≤◌, ◌∷◌, get_or, length}
use Rattle.std.specs.List.{filter, range_with_len}
use Rattle.co_node_parts.specs.declared.heartbeat_consumer.HeartbeatConsumer.{HeartbeatConsumer}
use Rattle.co_node_parts.specs.Consumers.{ConsumerLog, ConsumerStands, is_lost}
use Rattle.co_node_parts.specs.ConsumerTables.{Noted, AllStand, event_of}
use Rattle.co_node_parts.proofs.heartbeat_consumers.note_all.Given as goal

-- the entries before the index stand after the longer logs, the others are as they were, and those before it that lose
-- their heartbeat are answered
abbrev pub invariant-loop-i : goal.invariant-loop-i
invariant-loop-i l = record {
  few : length l.lost.items ≤ l.i;
  rest : (j : ℕ) (d : HeartbeatConsumer) → l.i ≤ j → get_or l.entries j d ≡ get_or l.fn.entries j d;
  lost : (logs : ℕ → ConsumerLog) → AllStand l.fn.entries logs → l.lost.items ≡ filter (λ sub. is_lost (event_of sub (Noted l.event)) (logs sub)) (range_with_len 1 l.i);
  done : (logs : ℕ → ConsumerLog) → AllStand l.fn.entries logs → (j : ℕ) (d : HeartbeatConsumer) → j < l.i → ConsumerStands (get_or l.entries j d) (event_of (j + 1) (Noted l.event) ∷ logs (j + 1));
}

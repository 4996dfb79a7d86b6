use Rattle.std.proofs.Common.{◌≡◌, ℕ, ◌+◌, ◌<◌, ◌≤◌, ◌∷◌, get_or}
use Rattle.co_node_parts.specs.declared.heartbeat_consumer.HeartbeatConsumer.{HeartbeatConsumer}
use Rattle.co_node_parts.specs.Consumers.{ConsumerLog, ConsumerStands}
use Rattle.co_node_parts.specs.ConsumerTables.{AllBegun, AllStand, event_of}
use Rattle.co_node_parts.proofs.heartbeat_consumers.begin_each.Given as goal

-- the entries before the index began, the others are as they were
abbrev pub invariant-loop-i : goal.invariant-loop-i
invariant-loop-i l = record {
  rest : (j : ℕ) (d : HeartbeatConsumer) → l.i ≤ j → get_or l.entries j d ≡ get_or l.fn.entries j d;
  done : (logs : ℕ → ConsumerLog) → AllStand l.fn.entries logs → (j : ℕ) (d : HeartbeatConsumer) → j < l.i → ConsumerStands (get_or l.entries j d) (event_of (j + 1) (AllBegun l.words) ∷ logs (j + 1));
}

use Rattle.std.proofs.Common.{◌≡◌, ℕ, ◌<◌, ◌≤◌, get_or}
use Rattle.std.specs.Prelude.{None}
use Rattle.co_node_parts.specs.declared.heartbeat_consumer.HeartbeatConsumer.{HeartbeatConsumer}
use Rattle.co_node_parts.proofs.heartbeat_consumers.used_among.Given as goal

-- of the entries before the index none from there on monitors anything
abbrev pub invariant-loop-i : goal.invariant-loop-i
invariant-loop-i l = record {
  within : l.used ≤ l.i;
  idle : (j : ℕ) (d : HeartbeatConsumer) → l.used ≤ j → j < l.i → (get_or l.entries j d).monitored ≡ None;
}

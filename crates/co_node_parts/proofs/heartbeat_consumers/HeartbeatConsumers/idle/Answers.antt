use Rattle.std.proofs.Common.{List, sym, subst}
use Rattle.co_node_parts.specs.declared.heartbeat_consumer.HeartbeatConsumer.{HeartbeatConsumer}
use Rattle.co_node_parts.specs.ConsumerTables.{ConsumersStand, entry_log}
use Rattle.co_node_parts.proofs.Idles.{none_lost}
use Rattle.co_node_parts.proofs.heartbeat_consumers.HeartbeatConsumers.idle.Goals as goal

pub returns : goal.returns
returns c = λ log n h le.
    let s = subst (λ (v : List HeartbeatConsumer). ConsumersStand v log) (sym c.self.view_is) h in
    none_lost n _ log s.count (c.idle_among.ensures (λ sub. entry_log sub log) n s.all le)

use Rattle.std.proofs.Common.{List, ◌∙◌, sym, subst}
use Rattle.co_node_parts.specs.declared.heartbeat_consumer.HeartbeatConsumer.{HeartbeatConsumer}
use Rattle.co_node_parts.specs.ConsumerTables.{ConsumersStand, entry_log}
use Rattle.co_node_parts.proofs.heartbeat_consumers.HeartbeatConsumers.begin_all.Goals as goal

pub returns : goal.returns
returns c = λ log h.
    let s = subst (λ (xs : List HeartbeatConsumer). ConsumersStand xs log) (sym c.self.view_is) h in
    record { count = c.begin_each.auto.entries ∙ s.count; all = c.begin_each.ensures (λ sub. entry_log sub log) s.all }

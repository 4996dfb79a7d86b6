use Rattle.std.proofs.Common.{arith}
use Rattle.std.proofs.lemmas.List.{length-replicate}
use Rattle.co_node_parts.proofs.Entries.{idle_new, stand_new}
use Rattle.co_node_parts.proofs.heartbeat_consumers.HeartbeatConsumers.new.Goals as goal

pub returns : goal.returns
returns c = record { count = length-replicate 127 c.new-entry.result; all = stand_new 127 c.new-entry.result c.new-entry.ensures }

pub invariant_of-result : goal.invariant_of-result
invariant_of-result c = (omega arith, idle_new 127 c.new-entry.result c.new-entry.ensures.monitored)

-- Lost heartbeats of other nodes, by the mark of an input (CiA 301, 7.2.8.3.2).
use Rattle.std.specs.Prelude.{ℕ, List}
use Rattle.co_dict.specs.Rows.{Contents}
use Rattle.co_node_parts.specs.ConsumerTables.{ConsumersLog}
use Rattle.co_node_model.specs.Heartbeats.{consumers_call, lost_by}
use Rattle.co_node_model.specs.declared.mark.Mark.{Mark}

-- the sub-indices of 1016h whose heartbeat is lost
abbrev pub lost_now : Mark → Contents → ConsumersLog → List ℕ
lost_now mark contents log = lost_by (consumers_call mark contents) log

use Rattle.std.proofs.Common.{◌-◌}
use Rattle.std.specs.List.{flat_map}
use Rattle.conode_stats_text.specs.NodeIds.{up_to}
use Rattle.conode_stats_text.specs.Tables.{line_of}
use Rattle.conode_stats_text.specs.Papers.{IsAppended}
use Rattle.conode_stats_text.proofs.tables.push_nodes.Given as goal

abbrev pub invariant-loop-number : goal.invariant-loop-number
invariant-loop-number l = IsAppended l.fn.paper (flat_map (line_of l.bus) (up_to (l.number - 1))) l.paper

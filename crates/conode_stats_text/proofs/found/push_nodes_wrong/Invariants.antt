use Rattle.std.proofs.Common.{◌-◌}
use Rattle.std.specs.List.{flat_map}
use Rattle.conode_stats_text.specs.Findings.{IsListed}
use Rattle.conode_stats_text.specs.Found.{node_found}
use Rattle.conode_stats_text.specs.NodeIds.{up_to}
use Rattle.conode_stats_text.proofs.found.push_nodes_wrong.Given as goal

abbrev pub invariant-loop-number : goal.invariant-loop-number
invariant-loop-number l = IsListed l.fn.paper l.fn.excerpt (flat_map (node_found l.kind l.sheets l.bus) (up_to (l.number - 1))) l.paper l.excerpt

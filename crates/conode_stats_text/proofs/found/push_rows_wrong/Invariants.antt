use Rattle.std.proofs.Common.{◌-◌}
use Rattle.std.specs.List.{flat_map}
use Rattle.conode_stats_text.specs.Findings.{IsListed}
use Rattle.conode_stats_text.specs.Found.{rows_found_of}
use Rattle.conode_stats_text.specs.NodeIds.{up_to}
use Rattle.conode_stats_text.proofs.found.push_rows_wrong.Given as goal

abbrev pub invariant-loop-node : goal.invariant-loop-node
invariant-loop-node l = IsListed l.fn.paper l.fn.excerpt (flat_map (rows_found_of l.kind l.interface l.rows) (up_to (l.node - 1))) l.paper l.excerpt

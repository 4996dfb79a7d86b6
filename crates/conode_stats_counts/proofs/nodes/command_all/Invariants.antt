use Rattle.std.proofs.Common.{◌≡◌, ◌++◌, map, take, drop}
use Rattle.conode_stats_counts.specs.NodeCounts.{node_commanded}
use Rattle.conode_stats_counts.proofs.nodes.command_all.Given as goal

-- those so far are changed, and with the rest changed all are
abbrev pub invariant-loop-node : goal.invariant-loop-node
invariant-loop-node l =
    take l.node-index l.nodes ++ map node_commanded (drop l.node-index l.nodes) ≡ map node_commanded l.fn.nodes

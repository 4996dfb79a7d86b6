use Rattle.std.proofs.Common.{◌≡◌, [], replicate}
use Rattle.conode_stats_counts.specs.NodeCounts.{node_of}
use Rattle.conode_stats_counts.proofs.nodes.new_nodes.Given as goal

abbrev pub invariant-loop-number : goal.invariant-loop-number
invariant-loop-number l = l.nodes.items ≡ replicate l._number (node_of [])

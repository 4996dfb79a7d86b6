use Rattle.std.proofs.Common.{arith}
use Rattle.conode_stats_counts.proofs.Noded.{all_new, one_new}
use Rattle.conode_stats_counts.proofs.nodes.new_nodes.Goals as goal

pub loop-number-preserved : goal.loop-number-preserved
loop-number-preserved c =
    one_new _ _ c.loop-number._number _ c.loop-number.invariant c.new.ensures c.in_ok-push.ensures.items

pub returns : goal.returns
returns c = all_new _ c.loop-number._number (omega arith) c.loop-number.invariant

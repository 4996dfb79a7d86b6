-- One frame more, as it is counted, is one frame more by definition.
use Rattle.conode_stats_counts.proofs.Counting.{one_more}
use Rattle.conode_stats_counts.proofs.counts.Counts.take.Goals as goal

pub returns-clause-all : goal.returns-clause-all
returns-clause-all c = one_more _ _ _ c.in_ok-add.ensures

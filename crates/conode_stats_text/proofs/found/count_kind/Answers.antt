use Rattle.conode_stats_text.proofs.Listed.{count_passed}
use Rattle.conode_stats_text.proofs.found.count_kind.Goals as goal

pub returns : goal.returns
returns c = count_passed 0 0 _ _ (rw c.new-excerpt.ensures at c.push_kind.ensures.all)

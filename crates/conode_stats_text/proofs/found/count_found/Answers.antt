use Rattle.std.proofs.Common.{refl}
use Rattle.conode_stats_text.specs.Found.{all_found, found, kinds}
use Rattle.conode_stats_text.proofs.Listed.{count_all, count_more}
use Rattle.conode_stats_text.proofs.found.count_found.Goals as goal

pub loop-kind-preserved : goal.loop-kind-preserved
loop-kind-preserved c =
    count_more (found c.args.page.now) kinds c.loop-kind.kind-index _ _ _ _ _ c.loop-kind-test.true refl c.loop-kind.invariant c.count_kind.ensures
    c.saturating_add-count.ensures

pub returns : goal.returns
returns c = unfold all_found in count_all (found c.args.page.now) kinds c.loop-kind.kind-index _ c.loop-kind-test.false c.loop-kind.invariant

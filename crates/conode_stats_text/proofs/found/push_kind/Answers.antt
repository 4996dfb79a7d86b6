use Rattle.conode_stats_text.specs.Found.{found, found_on}
use Rattle.conode_stats_text.proofs.Listed.{ends, further, nothing}
use Rattle.conode_stats_text.proofs.found.push_kind.Goals as goal

pub loop-bus-init : goal.loop-bus-init
loop-bus-init c = nothing _ _

pub loop-bus-preserved : goal.loop-bus-preserved
loop-bus-preserved c =
    further (found_on c.args.kind c.args.page.now.sheets.now) c.args.page.now.counts.now.buses c.loop-bus.bus-index _ _ _ _ _ _ _ _
    (rw c.buses-bus-items.ensures at c.loop-bus-test.true) (rw c.buses-bus-items.ensures at c.bus-item.is) c.loop-bus.invariant
    c.push_kind_on.ensures

pub returns : goal.returns
returns c =
    unfold found in
    ends (found_on c.args.kind c.args.page.now.sheets.now) c.args.page.now.counts.now.buses c.loop-bus.bus-index _ _ _ _
    (rw c.buses-bus-items.ensures at c.loop-bus-test.false) c.loop-bus.invariant

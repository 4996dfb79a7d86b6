use Rattle.conode_stats_text.specs.Found.{open_found, open_found_on}
use Rattle.conode_stats_text.proofs.Listed.{ends, further, nothing}
use Rattle.conode_stats_text.proofs.found.push_open_on.Goals as goal

pub loop-track-init : goal.loop-track-init
loop-track-init c = nothing _ _

pub loop-track-preserved : goal.loop-track-preserved
loop-track-preserved c =
    further (open_found_on c.args.bus.now) c.args.bus.now.transfers.channels c.loop-track.track-index _ _ _ _ _ _ _ _
    (rw (c.channels-track-items.ensures, c.transfers.ensures) at c.loop-track-test.true)
    (rw (c.channels-track-items.ensures, c.transfers.ensures) at c.track-item.is) c.loop-track.invariant c.push_open_in.ensures

pub returns : goal.returns
returns c =
    unfold open_found in
    ends (open_found_on c.args.bus.now) c.args.bus.now.transfers.channels c.loop-track.track-index _ _ _ _
    (rw (c.channels-track-items.ensures, c.transfers.ensures) at c.loop-track-test.false) c.loop-track.invariant

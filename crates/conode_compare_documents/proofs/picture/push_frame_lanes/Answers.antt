-- One lane after another.
use Rattle.std.proofs.Common.{take_all}
use Rattle.conode_compare_documents.specs.Picture.{frames_lane}
use Rattle.conode_json.proofs.Appending.{nothing, one_more}
use Rattle.conode_compare_documents.proofs.picture.push_frame_lanes.Goals as goal

pub loop-lane-init : goal.loop-lane-init
loop-lane-init c = nothing _

pub loop-lane-preserved : goal.loop-lane-preserved
loop-lane-preserved c = one_more (frames_lane c.args.bins.now) c.args.lanes.now c.loop-lane.lane-index _ c.loop-lane-test.true c.loop-lane.invariant c.push_frames.ensures

pub returns : goal.returns
returns c = (rw (take_all c.loop-lane.lane-index c.args.lanes.now c.loop-lane-test.false) at c.loop-lane.invariant)

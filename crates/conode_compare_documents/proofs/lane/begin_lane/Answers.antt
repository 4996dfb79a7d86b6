use Rattle.conode_compare_documents.specs.Picture.{lane_begin}
use Rattle.conode_compare_documents.proofs.lane.begin_lane.Goals as goal

pub returns : goal.returns
unfolding lane_begin
returns c = c.put.ensures

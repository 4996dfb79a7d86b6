-- The lane's begin, and its outline.
use Rattle.conode_compare_documents.specs.Picture.{frames_lane}
use Rattle.conode_json.proofs.Appending.{both}
use Rattle.conode_compare_documents.proofs.lane.push_frames.Goals as goal

pub returns : goal.returns
unfolding frames_lane
returns c = both (rw c.lane_name.ensures at c.begin_lane.ensures) c.push_outline.ensures

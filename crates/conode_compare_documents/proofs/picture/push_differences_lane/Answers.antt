-- One part after another.
use Rattle.conode_compare_documents.specs.Picture.{differences_lane}
use Rattle.conode_json.proofs.Appending.{both}
use Rattle.conode_compare_documents.proofs.picture.push_differences_lane.Goals as goal

pub returns : goal.returns
unfolding differences_lane
returns c = both (both c.begin_lane.ensures c.push_across_text.ensures) c.push_marks.ensures

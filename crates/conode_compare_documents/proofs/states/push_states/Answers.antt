-- The lane's begin, its areas, and its end.
use Rattle.conode_compare_documents.specs.Picture.{states_lane}
use Rattle.conode_json.proofs.Appending.{both}
use Rattle.conode_compare_documents.proofs.states.push_states.Goals as goal

pub returns : goal.returns
unfolding states_lane
returns c = both (both c.begin_lane.ensures c.push_areas.ensures) c.put_words.ensures

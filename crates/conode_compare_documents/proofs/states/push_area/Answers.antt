use Rattle.conode_compare_documents.specs.Picture.{state_area}
use Rattle.conode_compare_documents.proofs.states.push_area.Goals as goal

pub returns : goal.returns
unfolding state_area
returns c = c.put.ensures

use Rattle.conode_compare_documents.specs.Coverage.{states_text}
use Rattle.conode_compare_documents.proofs.coverage.push_states.Goals as goal

pub returns : goal.returns
unfolding states_text
returns c = c.put.ensures

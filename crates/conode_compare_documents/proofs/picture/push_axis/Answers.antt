use Rattle.conode_compare_documents.specs.Picture.{axis_text}
use Rattle.conode_compare_documents.proofs.picture.push_axis.Goals as goal

pub returns : goal.returns
unfolding axis_text
returns c = c.put.ensures

use Rattle.conode_compare_documents.specs.Picture.{mark_text}
use Rattle.conode_compare_documents.proofs.picture.push_mark_text.Goals as goal

pub returns : goal.returns
unfolding mark_text
returns c = rw (c.name.ensures, c.of.ensures) at c.put.ensures

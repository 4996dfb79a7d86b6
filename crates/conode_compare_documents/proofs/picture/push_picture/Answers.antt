-- The head of the section, and the picture.
use Rattle.conode_compare_documents.specs.Picture.{picture}
use Rattle.conode_json.proofs.Appending.{both}
use Rattle.conode_compare_documents.proofs.picture.push_picture.Goals as goal

pub returns : goal.returns
unfolding picture
returns c = both c.put_words.ensures (rw (c.lanes.ensures.kept) at c.push_any.ensures)

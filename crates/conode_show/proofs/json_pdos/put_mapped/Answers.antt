-- One part after another.
use Rattle.conode_show.specs.JsonForm.{mapped_tokens}
use Rattle.conode_text.proofs.Appending.{both}
use Rattle.conode_show.proofs.json_pdos.put_mapped.Goals as goal

pub returns : goal.returns
unfolding mapped_tokens
returns c = both (rw c.known_word.ensures at c.begin_mapped.ensures) c.put.ensures

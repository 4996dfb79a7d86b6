-- One part after another.
use Rattle.conode_show.specs.JsonForm.{pdo_tokens}
use Rattle.conode_text.proofs.Appending.{both}
use Rattle.conode_show.proofs.json_pdos.put_pdo_tokens.Goals as goal

pub returns : goal.returns
unfolding pdo_tokens
returns c =
    both (both (both (both (both c.put_pdo_begin.ensures c.put_inhibit.ensures) c.put_timer.ensures) (rw c.multiplexed_words.ensures at c.put_multiplexed.ensures)) c.put_mapping.ensures)
    c.put.ensures

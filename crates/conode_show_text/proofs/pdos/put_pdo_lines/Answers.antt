-- One part after another.
use Rattle.conode_text.proofs.Appending.{both}
use Rattle.conode_show_text.specs.Pdos.{pdo_lines}
use Rattle.conode_show_text.proofs.pdos.put_pdo_lines.Goals as goal

pub returns : goal.returns
unfolding pdo_lines
returns c = both (both c.put_pdo_line.ensures (rw c.multiplexed_words.ensures at c.put_multiplexed.ensures)) c.put_mapped_lines.ensures

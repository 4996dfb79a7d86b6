use Rattle.conode_stats_text.specs.Tables.{table_lines}
use Rattle.conode_stats_text.proofs.Appended.{both, just}
use Rattle.conode_stats_text.proofs.tables.push_table.Goals as goal

pub returns : goal.returns
returns c =
    unfold table_lines in
    both _ _ _ _ _ (just _ _ _ (rw c.head.ensures at c.put.ensures)) c.push_lines.ensures

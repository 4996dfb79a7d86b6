use Rattle.conode_stats_text.specs.Tables.{id_lines}
use Rattle.conode_stats_text.proofs.Appended.{ended}
use Rattle.conode_stats_text.proofs.tables.push_rows.Goals as goal

pub returns-in-Ok : goal.returns-in-Ok
returns-in-Ok c =
    unfold id_lines in
    rw (c.interface.ensures, c.as_slice.ensures.value, c.in-Ok.ensures) at c.push_all_rows.ensures

pub returns-in-Err : goal.returns-in-Err
returns-in-Err c = rw c.end.ensures (ended _ _)

-- The head, the rows, and the end.
use Rattle.conode_compare_documents.specs.Differences.{difference_table}
use Rattle.conode_json.proofs.Appending.{both}
use Rattle.conode_compare_documents.proofs.differences.push_table.Goals as goal

pub returns : goal.returns
unfolding difference_table
returns c = rw (← c.report.view_is) (both (both c.put_words.ensures (rw c.as_slice.ensures.value at c.push_rows.ensures)) c.push_end.ensures)

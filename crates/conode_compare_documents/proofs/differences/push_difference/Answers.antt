-- The row, the lines around it, and the end.
use Rattle.conode_compare_documents.specs.Differences.{difference}
use Rattle.conode_json.proofs.Appending.{both}
use Rattle.conode_compare_documents.proofs.differences.push_difference.Goals as goal

pub returns : goal.returns
unfolding difference
returns c = both (both c.push_row.ensures (rw (c.around.ensures.kept) at c.push_context.ensures)) c.put_words.ensures

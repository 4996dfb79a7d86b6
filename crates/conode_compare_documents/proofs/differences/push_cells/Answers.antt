use Rattle.conode_compare_documents.specs.Differences.{row_cells}
use Rattle.conode_compare_documents.proofs.differences.push_cells.Goals as goal

pub returns : goal.returns
unfolding row_cells
returns c = rw (c.saturating_sub.ensures, c.name.ensures, c.rule.ensures, c.of-kind.ensures) at c.put.ensures

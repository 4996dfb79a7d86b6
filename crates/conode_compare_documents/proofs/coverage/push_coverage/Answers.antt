-- One part after another.
use Rattle.conode_compare_documents.specs.Coverage.{tested}
use Rattle.conode_json.proofs.Appending.{both}
use Rattle.conode_compare_documents.proofs.coverage.push_coverage.Goals as goal

pub returns : goal.returns
unfolding tested
returns c = rw (← c.report.view_is, ← c.report-inside.view_is) (both (both (rw c.as_slice.ensures.value at c.push_kinds.ensures) (rw c.as_slice-2.ensures.value at c.push_entries.ensures)) (rw (← c.report-inside.view_is) at c.push_seen.ensures))

-- One part after another.
use Rattle.std.proofs.Common.{codes}
use Rattle.conode_json.specs.Members.{array_begin, object_begin}
use Rattle.conode_json.proofs.Appending.{both}
use Rattle.conode_compare_documents.specs.CoverageTokens.{coverage_member, entries_member, states_member}
use Rattle.conode_compare_documents.proofs.Ended.{regrouped}
use Rattle.conode_compare_documents.proofs.json_coverage.put_coverage.Goals as goal

pub returns : goal.returns
unfolding coverage_member entries_member states_member object_begin array_begin
returns c =
    rw (← c.coverage.view_is)
    (both (both (both (both (both (regrouped (object_begin (codes "coverage")) (array_begin (codes "entries")) c.put.ensures (rw c.as_slice.ensures.value at c.put_rows.ensures) c.put-2.ensures) (rw c.as_slice-2.ensures.value at c.put_services.ensures)) c.put-3.ensures)
    (rw c.as_slice-3.ensures.value at c.put_types.ensures)) (rw c.as_slice-4.ensures.value at c.put_aborts.ensures)) c.put-4.ensures)

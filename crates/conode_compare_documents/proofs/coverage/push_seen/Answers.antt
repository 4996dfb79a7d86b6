-- One part after another.
use Rattle.conode_compare_documents.specs.Coverage.{seen_text}
use Rattle.conode_json.proofs.Appending.{both}
use Rattle.conode_compare_documents.proofs.coverage.push_seen.Goals as goal

pub returns : goal.returns
unfolding seen_text
returns c = rw (← c.coverage.view_is) (both (both (both (rw c.as_slice.ensures.value at c.push_services.ensures) c.push_states.ensures) (rw c.as_slice-types.ensures.value at c.push_numbers.ensures))
    (rw c.as_slice-aborts.ensures.value at c.push_numbers-2.ensures))

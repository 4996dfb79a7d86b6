-- The head, the rows, and the end.
use Rattle.std.proofs.Common.{take_all}
use Rattle.conode_compare_documents.specs.Coverage.{service_item, services_text}
use Rattle.conode_json.proofs.Appending.{both, nothing, one_more}
use Rattle.conode_compare_documents.proofs.coverage.push_services.Goals as goal

pub loop-served-init : goal.loop-served-init
loop-served-init c = nothing _

pub loop-served-preserved : goal.loop-served-preserved
unfolding service_item
loop-served-preserved c = one_more service_item c.args.services.now c.loop-served.served-index _ c.loop-served-test.true c.loop-served.invariant (rw c.name.ensures at c.put.ensures)

pub returns : goal.returns
unfolding services_text
returns c = both (both c.put_words.ensures (rw (take_all c.loop-served.served-index c.args.services.now c.loop-served-test.false) at c.loop-served.invariant)) c.put_words-2.ensures

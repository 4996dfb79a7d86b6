-- The head, the elements, and the end.
use Rattle.std.proofs.Common.{take_all}
use Rattle.conode_json.proofs.Appending.{both, nothing, one_more}
use Rattle.conode_json.specs.Members.{array_begin}
use Rattle.conode_compare_documents.specs.CoverageTokens.{served_tokens, services_member}
use Rattle.conode_compare_documents.proofs.json_coverage.put_services.Goals as goal

pub loop-served-init : goal.loop-served-init
loop-served-init c = nothing _

pub loop-served-preserved : goal.loop-served-preserved
unfolding served_tokens
loop-served-preserved c = one_more served_tokens c.args.services.now c.loop-served.served-index _ c.loop-served-test.true c.loop-served.invariant (rw c.name.ensures at c.put-in-loop-served.ensures)

pub returns : goal.returns
unfolding services_member array_begin
returns c = both (both c.put.ensures (rw (take_all c.loop-served.served-index c.args.services.now c.loop-served-test.false) at c.loop-served.invariant)) c.put-2.ensures

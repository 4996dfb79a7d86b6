-- The head, the elements, and the end.
use Rattle.std.proofs.Common.{take_all}
use Rattle.conode_json.proofs.Appending.{both, nothing, one_more}
use Rattle.conode_json.specs.Members.{array_begin}
use Rattle.conode_compare_documents.specs.NotedTokens.{noted_tokens, findings_member}
use Rattle.conode_compare_documents.proofs.json_findings.put_findings.Goals as goal

pub loop-noted-init : goal.loop-noted-init
loop-noted-init c = nothing _

pub loop-noted-preserved : goal.loop-noted-preserved
loop-noted-preserved c = one_more (noted_tokens c.args.report.now.context) c.args.listed.now c.loop-noted.noted-index _ c.loop-noted-test.true c.loop-noted.invariant c.put_noted.ensures

pub returns : goal.returns
unfolding findings_member array_begin
returns c = both (both c.put.ensures (rw (take_all c.loop-noted.noted-index c.args.listed.now c.loop-noted-test.false) at c.loop-noted.invariant)) c.put-2.ensures

-- The head, the elements, and the end.
use Rattle.std.proofs.Common.{take_all}
use Rattle.conode_json.proofs.Appending.{both, nothing, one_more}
use Rattle.conode_json.specs.Members.{array_begin}
use Rattle.conode_compare_documents.specs.CoverageTokens.{abort_tokens, aborts_member}
use Rattle.conode_compare_documents.proofs.json_coverage.put_aborts.Goals as goal

pub loop-numbered-init : goal.loop-numbered-init
loop-numbered-init c = nothing _

pub loop-numbered-preserved : goal.loop-numbered-preserved
unfolding abort_tokens
loop-numbered-preserved c = one_more abort_tokens c.args.aborts.now c.loop-numbered.numbered-index _ c.loop-numbered-test.true c.loop-numbered.invariant c.put-in-loop-numbered.ensures

pub returns : goal.returns
unfolding aborts_member array_begin
returns c = both (both c.put.ensures (rw (take_all c.loop-numbered.numbered-index c.args.aborts.now c.loop-numbered-test.false) at c.loop-numbered.invariant)) c.put-2.ensures

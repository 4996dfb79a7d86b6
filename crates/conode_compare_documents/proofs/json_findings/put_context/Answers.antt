-- The head, the elements, and the end.
use Rattle.std.proofs.Common.{take_all}
use Rattle.conode_json.proofs.Appending.{both, nothing, one_more}
use Rattle.conode_json.specs.Members.{array_begin}
use Rattle.conode_compare_documents.specs.NotedTokens.{context_tokens, context_member}
use Rattle.conode_compare_documents.proofs.json_findings.put_context.Goals as goal

pub loop-line-init : goal.loop-line-init
loop-line-init c = nothing _

pub loop-line-preserved : goal.loop-line-preserved
loop-line-preserved c = one_more context_tokens c.args.lines.now c.loop-line.line-index _ c.loop-line-test.true c.loop-line.invariant (rw c.line-item.is at c.put_context_line.ensures)

pub returns : goal.returns
unfolding context_member array_begin
returns c = both (both c.put.ensures (rw (take_all c.loop-line.line-index c.args.lines.now c.loop-line-test.false) at c.loop-line.invariant)) c.put-2.ensures

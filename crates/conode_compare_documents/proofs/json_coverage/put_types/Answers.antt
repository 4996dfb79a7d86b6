-- The head, the elements, and the end.
use Rattle.std.proofs.Common.{take_all}
use Rattle.conode_json.proofs.Appending.{both, nothing, one_more}
use Rattle.conode_json.specs.Members.{array_begin}
use Rattle.conode_compare_documents.specs.CoverageTokens.{type_tokens, types_member}
use Rattle.conode_compare_documents.proofs.json_coverage.put_types.Goals as goal

pub loop-numbered-init : goal.loop-numbered-init
loop-numbered-init c = nothing _

pub loop-numbered-preserved : goal.loop-numbered-preserved
unfolding type_tokens
loop-numbered-preserved c = one_more type_tokens c.args.types.now c.loop-numbered.numbered-index _ c.loop-numbered-test.true c.loop-numbered.invariant c.put-in-loop-numbered.ensures

pub returns : goal.returns
unfolding types_member array_begin
returns c = both (both c.put.ensures (rw (take_all c.loop-numbered.numbered-index c.args.types.now c.loop-numbered-test.false) at c.loop-numbered.invariant)) c.put-2.ensures

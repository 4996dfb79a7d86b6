-- The head, the elements, and the end.
use Rattle.std.proofs.Common.{take_all}
use Rattle.conode_json.proofs.Appending.{both, nothing, one_more}
use Rattle.conode_json.specs.Members.{array_begin}
use Rattle.conode_compare_documents.specs.JsonDocument.{kind_tokens, kinds_member}
use Rattle.conode_compare_documents.proofs.json_text.put_kinds.Goals as goal

pub loop-counted-init : goal.loop-counted-init
loop-counted-init c = nothing _

pub loop-counted-preserved : goal.loop-counted-preserved
unfolding kind_tokens
loop-counted-preserved c = one_more kind_tokens c.args.kinds.now c.loop-counted.counted-index _ c.loop-counted-test.true c.loop-counted.invariant (rw (c.name.ensures, c.rule.ensures) at c.put-in-loop-counted.ensures)

pub returns : goal.returns
unfolding kinds_member array_begin
returns c = both (both c.put.ensures (rw (take_all c.loop-counted.counted-index c.args.kinds.now c.loop-counted-test.false) at c.loop-counted.invariant)) c.put-2.ensures

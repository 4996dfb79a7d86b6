-- The head, the rows, and the end.
use Rattle.std.proofs.Common.{take_all}
use Rattle.conode_compare_documents.specs.Coverage.{kind_row, kinds_table}
use Rattle.conode_json.proofs.Appending.{both, nothing, one_more}
use Rattle.conode_compare_documents.proofs.kinds.push_kinds.Goals as goal

pub loop-counted-init : goal.loop-counted-init
loop-counted-init c = nothing _

pub loop-counted-preserved : goal.loop-counted-preserved
unfolding kind_row
loop-counted-preserved c = one_more kind_row c.args.kinds.now c.loop-counted.counted-index _ c.loop-counted-test.true c.loop-counted.invariant (rw (c.name.ensures, c.rule.ensures) at c.put.ensures)

pub returns : goal.returns
unfolding kinds_table
returns c = both (both c.put_words.ensures (rw (take_all c.loop-counted.counted-index c.args.kinds.now c.loop-counted-test.false) at c.loop-counted.invariant)) c.put_words-2.ensures

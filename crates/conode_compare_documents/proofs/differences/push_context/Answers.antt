-- One line after another.
use Rattle.std.proofs.Common.{take_all}
use Rattle.conode_compare_documents.specs.Differences.{context_line}
use Rattle.conode_json.proofs.Appending.{nothing, one_more}
use Rattle.conode_compare_documents.proofs.differences.push_context.Goals as goal

pub loop-line-init : goal.loop-line-init
loop-line-init c = nothing _

pub loop-line-preserved : goal.loop-line-preserved
loop-line-preserved c = one_more (context_line c.args.number) c.args.lines.now c.loop-line.line-index _ c.loop-line-test.true c.loop-line.invariant (rw c.line-item.is at c.push_context_line.ensures)

pub returns : goal.returns
returns c = (rw (take_all c.loop-line.line-index c.args.lines.now c.loop-line-test.false) at c.loop-line.invariant)

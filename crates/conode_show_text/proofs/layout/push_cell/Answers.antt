use Rattle.std.proofs.Common.{take_all}
use Rattle.conode_show_text.specs.Layout.{cell_byte}
use Rattle.conode_show_text.proofs.Steps.{appended_more}
use Rattle.conode_show_text.proofs.layout.push_cell.Goals as goal

pub loop-byte-preserved : goal.loop-byte-preserved
loop-byte-preserved c = appended_more cell_byte c.args.part.now c.loop-byte.byte-index 0 _ _ _ c.loop-byte-test.true c.loop-byte.invariant c.in-Ok.ensures

pub returns : goal.returns
returns c = rw (take_all c.loop-byte.byte-index c.args.part.now c.loop-byte-test.false) at c.loop-byte.invariant

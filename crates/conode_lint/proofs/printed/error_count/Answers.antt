use Rattle.std.proofs.Common.{take_all}
use Rattle.conode_lint.proofs.printed.error_count.Goals as goal

pub returns : goal.returns
returns c = rw (take_all c.loop-mark.mark-index c.args.marks.now c.loop-mark-test.false) at c.loop-mark.invariant.count

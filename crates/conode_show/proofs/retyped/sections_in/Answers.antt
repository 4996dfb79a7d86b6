use Rattle.std.proofs.Common.{take_all}
use Rattle.conode_show.proofs.retyped.sections_in.Goals as goal

pub returns : goal.returns
returns c = rw (take_all c.loop-one.one-index c.args.retyped.now c.loop-one-test.false) at c.loop-one.invariant

use Rattle.std.proofs.Common.{take_all}
use Rattle.conode_show.proofs.retyped.properties_with.Goals as goal

pub returns : goal.returns
returns c = rw (take_all c.loop-property.property-index c.args.properties.now c.loop-property-test.false) at c.loop-property.invariant

use Rattle.co_dict.specs.declared.side.Side.TheVariants.{Rpdo}
use Rattle.co_node_device.proofs.rpdos.mapped_length.Goals as goal

pub returns-in-Some : goal.returns-in-Some
returns-in-Some c = λ d contents table. rw c.in-Some.is (c.width.ensures Rpdo d contents table)

use Rattle.co_node_device.proofs.Slots.{slots_begun}
use Rattle.co_node_device.proofs.build.slots_of.Goals as goal

pub returns : goal.returns
returns g c = slots_begun _ _ _ c.last_of.ensures c.new.ensures.stands c.new.ensures.few

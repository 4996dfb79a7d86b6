use Rattle.co_node_model.specs.Moments.{channels}
use Rattle.co_node_model.specs.Sdo.{channel_logs}
use Rattle.co_node_model.specs.Device.{moments}
use Rattle.co_node_device.proofs.device.Device.held.Goals as goal

pub returns-clause-held : goal.returns-clause-held
returns-clause-held g c = λ k inputs stands. c.held.ensures.held _ (channels k) (channel_logs (moments k inputs)) stands.channels

use Rattle.co_node_device.proofs.device.Device.take_event.Goals as goal

pub returns-clause-frames : goal.returns-clause-frames
returns-clause-frames g c = λ k inputs ns. c.take.ensures.frames k inputs ns tt

pub returns-clause-few : goal.returns-clause-few
returns-clause-few g c = λ k inputs ns. c.take.ensures.few k inputs ns tt

pub returns-clause-stands : goal.returns-clause-stands
returns-clause-stands g c = λ k inputs ns. c.take.ensures.stands k inputs ns tt

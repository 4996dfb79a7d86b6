use Rattle.std.proofs.Common.{ℕ, [], ◌∷◌, subst}
use Rattle.co_node_parts.specs.declared.heartbeat_producer.ProducerEvent.TheVariants.{Begin}
use Rattle.co_node_parts.specs.Producers.{ProducerStands}
use Rattle.co_node_device.proofs.heartbeats.begun_producer.Goals as goal

pub returns : goal.returns
returns g c = subst (λ (time : ℕ). ProducerStands c.note.new.self (Begin time ∷ [])) c.number_u16-time.ensures (c.note.ensures.stands [] c.new-producer.ensures)

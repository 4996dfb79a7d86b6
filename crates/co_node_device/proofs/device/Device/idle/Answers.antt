use Rattle.std.proofs.Common.{◌∙◌, arith}
use Rattle.co_node_model.specs.Device.{moments}
use Rattle.co_node_model.specs.Emergencies.{emergency_log}
use Rattle.co_node_model.specs.Heartbeats.{consumers_log, producer_log}
use Rattle.co_node_model.specs.Moments.{channels}
use Rattle.co_node_model.specs.Sdo.{channel_logs}
use Rattle.co_node_model.specs.Tpdos.{schedule_log}
use Rattle.co_node_device.proofs.Idles.{current_now, nothing_due}
use Rattle.co_node_device.proofs.device.Device.idle.Goals as goal

pub returns : goal.returns
returns g c = λ k inputs s.
    let d = g.S.ObjectStore.description c.args.self.now.store in
    let entries = g.S.ObjectStore.contents c.args.self.now.store in
    let h = moments k inputs in
    c.quiet_ticks.ensures k inputs c.min.result
    (nothing_due k inputs c.min.result entries c.get-state.result c.may_send-may.result s.contents (c.get-state.ensures ∙ s.state) c.may_send-may.ensures
    (c.idle-transfers.ensures d (channels k) (channel_logs h) c.min.result s.channels (omega (arith, c.min-received.ensures, c.min-sent.ensures, c.min-least.ensures, c.min.ensures)))
    (c.idle-consumers.ensures (consumers_log k h) c.min.result s.consumers (omega (arith, c.min-received.ensures, c.min-sent.ensures, c.min-least.ensures, c.min.ensures)))
    (c.idle-emergencies.ensures (emergency_log h) c.min.result s.emergencies (omega (arith, c.min-received.ensures, c.min-sent.ensures, c.min-least.ensures, c.min.ensures)))
    (c.idle-producer.ensures (producer_log k h) c.min.result s.producer (omega (arith, c.min-received.ensures, c.min-sent.ensures, c.min-least.ensures, c.min.ensures)))
    (c.tpdos_idle-tpdos.ensures (schedule_log k h) c.min.result s.schedule
    (current_now k inputs entries c.get-state.result s.contents (c.get-state.ensures ∙ s.state) (c.schedule_current.ensures k inputs))
    (omega (arith, c.min-received.ensures, c.min-sent.ensures, c.min-least.ensures, c.min.ensures))))

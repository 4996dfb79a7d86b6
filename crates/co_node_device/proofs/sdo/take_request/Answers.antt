use Rattle.std.proofs.Common.{◌≡◌, false, rules}
use Rattle.co_node_model.specs.Moments.{channels}
use Rattle.co_node_model.specs.Sdo.{channel_logs}
use Rattle.co_node_parts.specs.declared.nmt_state.NodeState.TheVariants.{Stopped}
use Rattle.co_node_parts.specs.NmtStates.{is_state}
use Rattle.co_node_device.proofs.Receptions.{request_received}
use Rattle.co_node_device.proofs.sdo.take_request.Goals as goal

pub returns-clause-received : goal.returns-clause-received
returns-clause-received g c = λ k history number before.
    let runs : is_state Stopped c.args.state ≡ false = search rules in
    request_received k history _ _ c.args.bank.now c.args.state before c.args.frame.now c.of_write.result
    c.take-set.result _ c.args.outbox.now.items c.take-set.new.outbox.items c.take-set.new.self runs c.of_write.ensures
    (c.take-set.ensures.responses (channels k) (channel_logs history) before.channels)
    (c.take-set.ensures.key (channels k) (channel_logs history) before.channels)
    (c.take-set.ensures.contents (channels k) (channel_logs history) before.channels)
    (c.take-set.ensures.stands (channels k) (channel_logs history) before.channels)

use Rattle.std.proofs.Common.{sym}
use Rattle.co_node_device.proofs.Receptions.{at_address, rpdo_received, sync_received}
use Rattle.co_node_device.proofs.receiving.take_frame.Goals as goal

pub returns-in-Channel-clause-received : goal.returns-in-Channel-clause-received
returns-in-Channel-clause-received g c = λ k history before.
    at_address c.args.frame.now _ c.args.address (sym c.in-Channel.is)
    (c.take_request.ensures.received k history c.in-Channel.field-0 before)

pub returns-in-Sync-clause-received : goal.returns-in-Sync-clause-received
returns-in-Sync-clause-received g c = λ k history before.
    at_address c.args.frame.now _ c.args.address (sym c.in-Sync.is)
    (sync_received k history _ _ c.args.bank.now c.args.state before c.args.frame.now
    c.args.outbox.now.items c.sync_mark.result (c.sync_mark.ensures.mark _ _))

pub returns-in-Rpdo-clause-received : goal.returns-in-Rpdo-clause-received
returns-in-Rpdo-clause-received g c = λ k history before.
    at_address c.args.frame.now _ c.args.address (sym c.in-Rpdo.is)
    (rpdo_received k history _ _ c.args.bank.now c.args.state before c.args.frame.now c.in-Rpdo.number
    c.args.outbox.now.items c.rpdo_mark.result (c.rpdo_mark.ensures _ _))

use Rattle.std.proofs.Common.{sym, ◌∙◌}
use Rattle.co_node_device.proofs.Found.{found}
use Rattle.co_node_device.proofs.device.Device.take_frame_inlined.Goals as goal

pub returns-in-Sync-clause-frames : goal.returns-in-Sync-clause-frames
returns-in-Sync-clause-frames g c = λ k inputs ns.
    c.take.ensures.frames k inputs ns (sym c.in-Sync.is ∙ found _ _ c.find_address-address.ensures k inputs ns)

pub returns-in-Sync-clause-few : goal.returns-in-Sync-clause-few
returns-in-Sync-clause-few g c = λ k inputs ns.
    c.take.ensures.few k inputs ns (sym c.in-Sync.is ∙ found _ _ c.find_address-address.ensures k inputs ns)

pub returns-in-Sync-clause-stands : goal.returns-in-Sync-clause-stands
returns-in-Sync-clause-stands g c = λ k inputs ns.
    c.take.ensures.stands k inputs ns (sym c.in-Sync.is ∙ found _ _ c.find_address-address.ensures k inputs ns)

pub returns-in-Sync-clause-seen : goal.returns-in-Sync-clause-seen
returns-in-Sync-clause-seen g c = λ k inputs ns.
    c.take.ensures.seen k inputs ns (sym c.in-Sync.is ∙ found _ _ c.find_address-address.ensures k inputs ns)

pub returns-in-Channel-clause-frames : goal.returns-in-Channel-clause-frames
returns-in-Channel-clause-frames g c = λ k inputs ns.
    c.take-in-Channel.ensures.frames k inputs ns (sym c.in-Channel.is ∙ found _ _ c.find_address-address.ensures k inputs ns)

pub returns-in-Channel-clause-few : goal.returns-in-Channel-clause-few
returns-in-Channel-clause-few g c = λ k inputs ns.
    c.take-in-Channel.ensures.few k inputs ns (sym c.in-Channel.is ∙ found _ _ c.find_address-address.ensures k inputs ns)

pub returns-in-Channel-clause-stands : goal.returns-in-Channel-clause-stands
returns-in-Channel-clause-stands g c = λ k inputs ns.
    c.take-in-Channel.ensures.stands k inputs ns (sym c.in-Channel.is ∙ found _ _ c.find_address-address.ensures k inputs ns)

pub returns-in-Channel-clause-seen : goal.returns-in-Channel-clause-seen
returns-in-Channel-clause-seen g c = λ k inputs ns.
    c.take-in-Channel.ensures.seen k inputs ns (sym c.in-Channel.is ∙ found _ _ c.find_address-address.ensures k inputs ns)

pub returns-in-Rpdo-clause-frames : goal.returns-in-Rpdo-clause-frames
returns-in-Rpdo-clause-frames g c = λ k inputs ns.
    c.take-in-Rpdo.ensures.frames k inputs ns (sym c.in-Rpdo.is ∙ found _ _ c.find_address-address.ensures k inputs ns)

pub returns-in-Rpdo-clause-few : goal.returns-in-Rpdo-clause-few
returns-in-Rpdo-clause-few g c = λ k inputs ns.
    c.take-in-Rpdo.ensures.few k inputs ns (sym c.in-Rpdo.is ∙ found _ _ c.find_address-address.ensures k inputs ns)

pub returns-in-Rpdo-clause-stands : goal.returns-in-Rpdo-clause-stands
returns-in-Rpdo-clause-stands g c = λ k inputs ns.
    c.take-in-Rpdo.ensures.stands k inputs ns (sym c.in-Rpdo.is ∙ found _ _ c.find_address-address.ensures k inputs ns)

pub returns-in-Rpdo-clause-seen : goal.returns-in-Rpdo-clause-seen
returns-in-Rpdo-clause-seen g c = λ k inputs ns.
    c.take-in-Rpdo.ensures.seen k inputs ns (sym c.in-Rpdo.is ∙ found _ _ c.find_address-address.ensures k inputs ns)

pub returns-in-Sync-clause-changes : goal.returns-in-Sync-clause-changes
returns-in-Sync-clause-changes g c = λ k inputs ns.
    c.take.ensures.changes k inputs ns (sym c.in-Sync.is ∙ found _ _ c.find_address-address.ensures k inputs ns)

pub returns-in-Channel-clause-changes : goal.returns-in-Channel-clause-changes
returns-in-Channel-clause-changes g c = λ k inputs ns.
    c.take-in-Channel.ensures.changes k inputs ns (sym c.in-Channel.is ∙ found _ _ c.find_address-address.ensures k inputs ns)

pub returns-in-Rpdo-clause-changes : goal.returns-in-Rpdo-clause-changes
returns-in-Rpdo-clause-changes g c = λ k inputs ns.
    c.take-in-Rpdo.ensures.changes k inputs ns (sym c.in-Rpdo.is ∙ found _ _ c.find_address-address.ensures k inputs ns)

use Rattle.std.proofs.Common.{◌≡◌, ◌++◌, map, take, drop}
use Rattle.conode_explain_entries.specs.Further.{booted}
use Rattle.conode_explain_entries.proofs.further.FurtherChannels.boot_up.Given as goal

-- those so far are changed, and with the rest changed all are
abbrev pub invariant-loop-channel : goal.invariant-loop-channel
invariant-loop-channel l =
    take l.channel-index l.channel-items ++ map (booted l.interface l.node) (drop l.channel-index l.channel-items)
    ≡ map (booted l.interface l.node) l.fn.self

use Rattle.std.proofs.Common.{[]}
use Rattle.co_sdo.specs.Channels.{channels_below}
use Rattle.co_sdo.specs.Banks.{BankStands}
use Rattle.co_sdo.proofs.channels.existing_channels.Given as goal

-- the channels below the number
abbrev pub invariant-loop-number : goal.invariant-loop-number
invariant-loop-number g l = BankStands (g.S.ObjectStore.description l.store) (channels_below l.number (g.S.ObjectStore.description l.store) (g.S.ObjectStore.contents l.store) l.greatest l.time) l.bank.items (λ n. [])

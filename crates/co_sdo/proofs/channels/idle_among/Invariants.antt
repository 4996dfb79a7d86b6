use Rattle.std.proofs.Common.{◌≤◌, ℕ, List}
use Rattle.co_dict.specs.Stores.{Description}
use Rattle.co_sdo.specs.Log.{Log}
use Rattle.co_sdo.specs.Channels.{ChannelSettings}
use Rattle.co_sdo.specs.Banks.{AreInTimeFor, BankStands}
use Rattle.co_sdo.proofs.channels.idle_among.Given as goal

-- the time of none before the index is over
abbrev pub invariant-loop-numbered : goal.invariant-loop-numbered
invariant-loop-numbered l = (d : Description) (channels : List ChannelSettings) (logs : ℕ → Log) (n : ℕ) → BankStands d channels l.bank logs → n ≤ l.least → AreInTimeFor n l.numbered-index l.bank logs

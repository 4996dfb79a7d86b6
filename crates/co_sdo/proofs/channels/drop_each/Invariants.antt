use Rattle.std.proofs.Common.{◌≡◌, ℕ, ◌<◌, ◌≤◌, ◌∷◌, List, get_or}
use Rattle.co_dict.specs.Stores.{Description}
use Rattle.co_sdo.specs.Log.{Log, Dropped}
use Rattle.co_sdo.specs.Standing.{Stands}
use Rattle.co_sdo.specs.declared.channels.NumberedChannel.{NumberedChannel}
use Rattle.co_sdo.specs.Channels.{ChannelSettings}
use Rattle.co_sdo.specs.Banks.{BankStands, all_settings}
use Rattle.co_sdo.proofs.channels.drop_each.Given as goal

-- those before the index stand after the longer logs, the others are as they were
abbrev pub invariant-loop-numbered : goal.invariant-loop-numbered
invariant-loop-numbered l = record {
  settings : all_settings l.bank ≡ all_settings l.fn.bank;
  rest : (j : ℕ) (e : NumberedChannel) → l.numbered-index ≤ j → get_or l.bank j e ≡ get_or l.fn.bank j e;
  done : (d : Description) (channels : List ChannelSettings) (logs : ℕ → Log) → BankStands d channels l.fn.bank logs → (j : ℕ) (e : NumberedChannel) → j < l.numbered-index → Stands d (get_or l.bank j e).channel (Dropped ∷ logs (get_or l.bank j e).number);
}

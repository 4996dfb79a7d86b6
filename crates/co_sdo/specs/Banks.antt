-- All SDO channels of a device, each after the log of its number.
use Rattle.std.specs.Prelude.{◌≡◌, ℕ, ◌<◌, ◌==◌, List, length, map, Option, position}
use Rattle.std.specs.List.{range_with_len, slice_index_or}
use Rattle.co_dict.specs.Stores.{Description}
use Rattle.co_sdo.specs.Log.{Log}
use Rattle.co_sdo.specs.Opened.{NotOverFor}
use Rattle.co_sdo.specs.Standing.{Stands}
use Rattle.co_sdo.specs.declared.channels.NumberedChannel.{NumberedChannel}
use Rattle.co_sdo.specs.Channels.{ChannelSettings, AreInOrder}

-- what never changes of a channel
abbrev pub settings_of : NumberedChannel → ChannelSettings
settings_of c = record {
  number = c.number;
  request = c.channel.request;
  response = c.channel.answer;
  greatest = c.channel.greatest;
  time = c.channel.time;
}

-- what never changes of each
abbrev pub all_settings : List NumberedChannel → List ChannelSettings
all_settings bank = map settings_of bank

-- these are the channels, and each is in the state after the log of its number
pub record BankStands (d : Description) (channels : List ChannelSettings) (bank : List NumberedChannel) (logs : ℕ → Log) : Type 0 where
  pub settings : all_settings bank ≡ channels
  pub each : (i : ℕ) (e : NumberedChannel) → i < length bank →
      Stands d (slice_index_or bank i e).channel (logs (slice_index_or bank i e).number)

-- none of the first `count` channels times out within `n` ticks
abbrev pub AreInTimeFor : ℕ → ℕ → List NumberedChannel → (ℕ → Log) → Type 0
AreInTimeFor n count bank logs = (i : ℕ) (e : NumberedChannel) → i < count →
    NotOverFor (slice_index_or bank i e).channel.time n (logs (slice_index_or bank i e).number)

-- for each identifier below this the place of the first channel whose requests have it
unfoldable pub places_below : ℕ → List ChannelSettings → List (Option ℕ)
places_below end channels = map (λ id. position (λ c. c.request == id) channels) (range_with_len 0 end)

-- the channels are in order, and the table has their places
pub record IsBank (table : List (Option ℕ)) (channels : List ChannelSettings) : Type 0 where
  pub order : AreInOrder channels
  pub places : table ≡ places_below 2048 channels

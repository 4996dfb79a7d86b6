-- Which SDO channels a device has as a server, and what never changes of each (CiA 301, 7.5.2.33).
use Rattle.std.specs.Prelude.{ℕ, ◌<◌, ◌≤◌, List, length, map}
use Rattle.std.specs.List.{filter, range_with_len, slice_index_or}
use Rattle.co_value.specs.declared.key.Key.{Key}
use Rattle.co_dict.specs.Rows.{Rows, Contents, capacity_at}
use Rattle.co_dict.specs.Stores.{Description}
use Rattle.co_dict.specs.SdoChannels.{is_channel, request_id, answer_id}

-- what never changes of a channel: its number, the identifiers of its requests and responses, the
-- greatest capacity of an entry that it has room for, and the SDO timeout in ms (0 disables it)
pub record ChannelSettings : Type 0 where
  pub number : ℕ
  pub request : ℕ
  pub response : ℕ
  pub greatest : ℕ
  pub time : ℕ

-- those of the channel with a number
abbrev pub settings_for : Description → Contents → ℕ → ℕ → ℕ → ChannelSettings
settings_for d contents greatest time number = record {
  number = number;
  request = request_id d.node contents number;
  response = answer_id d.node contents number;
  greatest = greatest;
  time = time;
}

-- the channels that exist with a number below this, in increasing number
unfoldable pub channels_below : ℕ → Description → Contents → ℕ → ℕ → List ChannelSettings
channels_below end d contents greatest time =
    map (settings_for d contents greatest time) (filter (is_channel contents) (range_with_len 0 end))

-- the channels that exist, in increasing number
abbrev pub channels_of : Description → Contents → ℕ → ℕ → List ChannelSettings
channels_of d contents greatest time = channels_below 128 d contents greatest time

-- at most 128 channels, in increasing number, each number below 128
pub record AreInOrder (channels : List ChannelSettings) : Type 0 where
  pub few : length channels ≤ 128
  pub below : (i : ℕ) (e : ChannelSettings) → i < length channels → (slice_index_or channels i e).number < 128
  pub increasing : (i j : ℕ) (e : ChannelSettings) → i < j → j < length channels →
      (slice_index_or channels i e).number < (slice_index_or channels j e).number

-- each channel has room for each entry
abbrev pub HaveRoom : Rows → List ChannelSettings → Type 0
HaveRoom rows channels =
    (i : ℕ) (e : ChannelSettings) (key : Key) → i < length channels → capacity_at rows key ≤ (slice_index_or channels i e).greatest

-- The SDO channels of a recording other than the default ones, each by its two identifiers; each is
-- followed as `hearing` says.
use Rattle.std.specs.Prelude.{ℕ, ◌==◌, ◌&&◌, nat_lt, Bool, if◌then◌else◌, List, [], ◌∷◌, ◌++◌, length, slice_set, map, position, Option, Some, None}
use Rattle.std.specs.List.{slice_index_or}
use Rattle.std.specs.Str.{bytes_eq}
use Rattle.conode_explain_transfers.specs.declared.kinds.Side.TheVariants.{Client}
use Rattle.conode_explain_transfers.specs.declared.told.Told.{Told}
use Rattle.conode_explain_transfers.specs.Followed.{Following, after_boot, nothing_heard}
use Rattle.conode_explain_transfers.specs.Hearings.{hearing}
use Rattle.conode_explain_transfers.specs.Reveals.{revealed}
use Rattle.conode_explain_transfers.specs.Tracks.{told_by}
use Rattle.conode_explain_entries.specs.declared.further.ChannelIds.{ChannelIds}
use Rattle.conode_explain_entries.specs.declared.further.FurtherChannel.{FurtherChannel}
use Rattle.conode_explain_entries.specs.declared.further.Place.{Place}

-- at most so many are followed
abbrev pub most_channels : ℕ
most_channels = 1024

-- nothing was heard on it
abbrev pub new_channel : List ℕ → Place → FurtherChannel
new_channel interface place =
    record { interface = record { items = interface }; node = place.node; ids = place.ids; channel = nothing_heard }

-- of a node on an interface
abbrev pub is_at : List ℕ → ℕ → FurtherChannel → Bool
is_at interface node channel = (channel.node == node) && bytes_eq channel.interface.items interface

-- with these identifiers
abbrev pub are_same : ChannelIds → ChannelIds → Bool
are_same ids others = (ids.request == others.request) && (ids.answer == others.answer)

-- the channel of a frame
abbrev pub is_of : List ℕ → Place → FurtherChannel → Bool
is_of interface place channel = are_same channel.ids place.ids && is_at interface place.node channel

abbrev pub place_of : List FurtherChannel → List ℕ → Place → Option ℕ
place_of channels interface place = position (is_of interface place) channels

-- what is at a place; none is asked for that isn't there
abbrev pub no_place : Place
no_place = record { node = 0; ids = record { request = 0; answer = 0 }; side = Client }

abbrev pub channel_at : List FurtherChannel → ℕ → FurtherChannel
channel_at channels place = slice_index_or channels place (new_channel [] no_place)

-- the channel at a place is now this
abbrev pub with_channel : List FurtherChannel → ℕ → Following → List FurtherChannel
with_channel channels place next = slice_set channels place (record (channel_at channels place) { channel = next })

-- ---- a frame

-- a channel's place, where it is followed, among the channels then
pub record Placed : Type 0 where
  pub place : Option ℕ
  pub channels : List FurtherChannel

-- one that isn't there yet comes last, where there is room
abbrev pub placed_at : Option ℕ → List FurtherChannel → List ℕ → Place → Placed
placed_at (Some at) channels interface place = record { place = Some at; channels = channels }
placed_at None channels interface place =
    if nat_lt (length channels) most_channels
    then record { place = Some (length channels); channels = channels ++ new_channel interface place ∷ [] }
    else record { place = None; channels = channels }

unfoldable pub placed : List FurtherChannel → List ℕ → Place → Placed
placed channels interface place = placed_at (place_of channels interface place) channels interface place

-- what is said about it, and the channels after it
pub record FurtherTelling : Type 0 where
  pub told : Option Told
  pub channels : List FurtherChannel

abbrev pub telling_at : Option ℕ → List FurtherChannel → Place → ℕ → List ℕ → FurtherTelling
telling_at None channels place micros bytes = record { told = None; channels = channels }
telling_at (Some at) channels place micros bytes =
    let channel = (channel_at channels at).channel in
    let f = hearing channel micros place.side bytes in
    record { told = Some (told_by place.side place.node (revealed channel micros place.side bytes) f.says); channels = with_channel channels at f.next }

-- with its stamp on an interface; a channel that there is no room for isn't followed
unfoldable pub further_telling : List FurtherChannel → List ℕ → Place → ℕ → List ℕ → FurtherTelling
further_telling channels interface place micros bytes =
    let p = placed channels interface place in telling_at p.place p.channels place micros bytes

-- ---- a boot-up

-- the open transfer of each channel of the node is over
abbrev pub booted : List ℕ → ℕ → FurtherChannel → FurtherChannel
booted interface node channel =
    if is_at interface node channel then record channel { channel = after_boot channel.channel } else channel

abbrev pub booted_all : List FurtherChannel → List ℕ → ℕ → List FurtherChannel
booted_all channels interface node = map (booted interface node) channels

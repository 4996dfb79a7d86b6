-- The SDO channels of a recording, one for each node on each interface; each is followed as
-- `hearing` says.
use Rattle.std.specs.Prelude.{ℕ, ◌==◌, ◌&&◌, nat_lt, Bool, if◌then◌else◌, List, [], ◌∷◌, ◌++◌, length, slice_set, position, Option, Some, None}
use Rattle.std.specs.List.{slice_index_or}
use Rattle.std.specs.Str.{bytes_eq}
use Rattle.conode_explain_transfers.specs.declared.ended.Ending.{Ending}
use Rattle.conode_explain_transfers.specs.declared.ended.Ending.TheVariants.{NotFollowed}
use Rattle.conode_explain_transfers.specs.declared.ended.Ended.{Ended}
use Rattle.conode_explain_transfers.specs.declared.channel.Heard.{Heard}
use Rattle.conode_explain_transfers.specs.declared.kinds.Side.{Side}
use Rattle.conode_explain_transfers.specs.declared.kinds.What.{What}
use Rattle.conode_explain_transfers.specs.declared.kinds.What.TheVariants.{Segment}
use Rattle.conode_explain_transfers.specs.Endings.{is_followed}
use Rattle.conode_explain_transfers.specs.Followed.{Following, nothing_heard, broken_off, after_boot}
use Rattle.conode_explain_transfers.specs.Hearings.{hearing}
use Rattle.conode_explain_transfers.specs.Reveals.{revealed}
use Rattle.conode_explain_transfers.specs.declared.revealed.Revealed.{Revealed}
use Rattle.conode_explain_transfers.specs.declared.told.Told.{Told}
use Rattle.conode_explain_transfers.specs.declared.track.Track.{Track}

-- ---- a channel among others

-- at most so many are followed
abbrev pub most_channels : ℕ
most_channels = 1024

-- nothing was heard on it
abbrev pub new_track : List ℕ → ℕ → Track
new_track interface node = record { interface = record { items = interface }; node = node; channel = nothing_heard }

-- that of a node on an interface
abbrev pub is_of : List ℕ → ℕ → Track → Bool
is_of interface node track = (track.node == node) && bytes_eq track.interface.items interface

abbrev pub place_of : List Track → List ℕ → ℕ → Option ℕ
place_of tracks interface node = position (is_of interface node) tracks

abbrev pub track_at : List Track → ℕ → Track
track_at tracks place = slice_index_or tracks place (new_track [] 0)

-- the channel at a place is now this
abbrev pub with_channel : List Track → ℕ → Following → List Track
with_channel tracks place next = slice_set tracks place (record (track_at tracks place) { channel = next })

-- a channel's place, where it is followed, among the channels then
pub record Placed : Type 0 where
  pub place : Option ℕ
  pub tracks : List Track

-- one that isn't there yet comes last, where there is room
abbrev pub placed_at : Option ℕ → List Track → List ℕ → ℕ → Placed
placed_at (Some place) tracks interface node = record { place = Some place; tracks = tracks }
placed_at None tracks interface node =
    if nat_lt (length tracks) most_channels
    then record { place = Some (length tracks); tracks = tracks ++ new_track interface node ∷ [] }
    else record { place = None; tracks = tracks }

unfoldable pub placed : List Track → List ℕ → ℕ → Placed
placed tracks interface node = placed_at (place_of tracks interface node) tracks interface node

-- ---- what is said about frames

pub record Telling : Type 0 where
  pub told : Option Told
  pub tracks : List Track

-- nothing is said of the end of a transfer that can't be followed
abbrev pub shown_end : Option Ended → Option Ended
shown_end None = None
shown_end (Some e) = if is_followed e.ending then Some e else None

-- what looks like the next initiate request, or like an abort, is a segment, with its number
abbrev pub frame_after : What → Ending → What
frame_after what (NotFollowed (Some number)) = Segment number
frame_after what ending = what

abbrev pub shown_what : What → Option Ended → What
shown_what what None = what
shown_what what (Some e) = frame_after what e.ending

-- a frame of an end, which reveals this, and of which its channel says this
abbrev pub told_by : Side → ℕ → Revealed → Heard → Told
told_by side node revealed heard = record {
  node = node;
  part = Some (record { side = side; what = shown_what heard.what heard.ended; of = heard.of });
  left = revealed.left;
  ended = shown_end heard.ended;
  unclear = revealed.unclear;
}

-- a frame with its stamp, by an end, with these bytes, on the channel at a place

abbrev pub telling_at : Option ℕ → List Track → ℕ → ℕ → Side → List ℕ → Telling
telling_at None tracks node micros side bytes = record { told = None; tracks = tracks }
telling_at (Some place) tracks node micros side bytes =
    let channel = (track_at tracks place).channel in
    let f = hearing channel micros side bytes in
    record { told = Some (told_by side node (revealed channel micros side bytes) f.says); tracks = with_channel tracks place f.next }

-- a frame of a node on an interface; a channel that there is no room for isn't followed
unfoldable pub sdo_telling : List Track → List ℕ → ℕ → ℕ → Side → List ℕ → Telling
sdo_telling tracks interface node micros side bytes =
    let p = placed tracks interface node in telling_at p.place p.tracks node micros side bytes

-- a node booted up: its open transfer is interrupted
abbrev pub boot_telling_at : Option ℕ → List Track → ℕ → ℕ → Telling
boot_telling_at None tracks node micros = record { told = None; tracks = tracks }
boot_telling_at (Some place) tracks node micros =
    let following = (track_at tracks place).channel in
    record {
      told = Some (record { node = node; part = None; left = None; ended = shown_end (broken_off following.transfer micros); unclear = None });
      tracks = with_channel tracks place (after_boot following);
    }

unfoldable pub boot_telling : List Track → List ℕ → ℕ → ℕ → Telling
boot_telling tracks interface node micros = boot_telling_at (place_of tracks interface node) tracks node micros

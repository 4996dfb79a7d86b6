-- How worked dialogues are written: frames as hexadecimal digits, the first one first, and what is said of them.
use Rattle.std.proofs.Common.{ℕ, List, [], ◌∷◌}
use Rattle.std.specs.Prelude.{◌+◌, ◌-◌, ◌*◌, nat_lt, if◌then◌else◌, Option, Some, None}
use Rattle.co_value.specs.declared.key.Key.{Key}
use Rattle.conode_explain_transfers.specs.declared.channel.Heard.{Heard}
use Rattle.conode_explain_transfers.specs.declared.ended.Ended.{Ended}
use Rattle.conode_explain_transfers.specs.declared.ended.Ending.{Ending}
use Rattle.conode_explain_transfers.specs.declared.ended.Ending.TheVariants.{Unfinished}
use Rattle.conode_explain_transfers.specs.declared.kinds.Protocol.{Protocol}
use Rattle.conode_explain_transfers.specs.declared.kinds.Side.{Side}
use Rattle.conode_explain_transfers.specs.declared.kinds.Side.TheVariants.{Client, Server}
use Rattle.conode_explain_transfers.specs.declared.kinds.What.{What}
use Rattle.conode_explain_transfers.specs.Followed.{Following, nothing_heard, closed, followed}
use Rattle.conode_explain_transfers.specs.Hearings.{hearing}
use Rattle.conode_explain_transfers.specs.Reveals.{revealed}
use Rattle.conode_explain_transfers.specs.Tracks.{shown_end, shown_what}

-- the digits of a frame
abbrev pub digit : ℕ → ℕ
digit code = if nat_lt code 65 then code - 48 else code - 55

abbrev pub hex : List ℕ → List ℕ
hex [] = []
hex (high ∷ []) = []
hex (high ∷ low ∷ digits) = (16 * digit high + digit low) ∷ hex digits

-- a frame of an end
pub record Sent : Type 0 where
  pub side : Side
  pub bytes : List ℕ

-- of the client, and of the server
abbrev pub c : List ℕ → Sent
c digits = record { side = Client; bytes = hex digits }

abbrev pub s : List ℕ → Sent
s digits = record { side = Server; bytes = hex digits }

-- a transfer that ended: the protocol, the bytes that came, how many frames there were, and how it ended
pub record End : Type 0 where
  pub protocol : Protocol
  pub bytes : ℕ
  pub first : List ℕ
  pub frames : ℕ
  pub ending : Ending

abbrev pub end_of : Ended → End
end_of e = record { protocol = e.protocol; bytes = e.bytes; first = e.first.items; frames = e.frames; ending = e.ending }

abbrev pub ends_with : Option Ended → List End → List End
ends_with None ends = ends
ends_with (Some e) ends = end_of e ∷ ends

-- what a channel says of frames
pub record Told : Type 0 where
  pub whats : List What
  pub ends : List End

abbrev pub told_with : Heard → Told → Told
told_with heard told = record { whats = heard.what ∷ told.whats; ends = ends_with heard.ended told.ends }

abbrev pub told_from : Following → List Sent → Told
told_from following [] = record { whats = []; ends = [] }
told_from following (sent ∷ later) =
    let step = followed following 0 sent.side sent.bytes in
    told_with step.says (told_from step.next later)

abbrev pub told : List Sent → Told
told frames = told_from nothing_heard frames

-- what is heard of them in a recording, and shown
abbrev pub shown_of : Heard → Heard
shown_of heard = record { what = shown_what heard.what heard.ended; of = heard.of; ended = shown_end heard.ended }

-- a transfer that was left has its end before the one that ends with the frame
abbrev pub left_with : Option Ended → Told → Told
left_with left told = record { whats = told.whats; ends = ends_with left told.ends }

abbrev pub shown_from : Following → List Sent → Told
shown_from following [] = record { whats = []; ends = [] }
shown_from following (sent ∷ later) =
    let step = hearing following 0 sent.side sent.bytes in
    left_with (revealed following 0 sent.side sent.bytes).left (told_with (shown_of step.says) (shown_from step.next later))

abbrev pub shown : List Sent → Told
shown frames = shown_from nothing_heard frames

-- the channel after it heard them
abbrev pub heard_all : Following → List Sent → Following
heard_all following [] = following
heard_all following (sent ∷ later) = heard_all (hearing following 0 sent.side sent.bytes).next later

-- the entries of which nothing is known after them
abbrev pub keys_with : Option Key → List Key → List Key
keys_with None keys = keys
keys_with (Some key) keys = key ∷ keys

abbrev pub unclear_from : Following → List Sent → List Key
unclear_from following [] = []
unclear_from following (sent ∷ later) =
    keys_with (revealed following 0 sent.side sent.bytes).unclear (unclear_from (hearing following 0 sent.side sent.bytes).next later)

-- the channel after it took them
abbrev pub after_all : Following → List Sent → Following
after_all following [] = following
after_all following (sent ∷ later) = after_all (followed following 0 sent.side sent.bytes).next later

-- what is shown of the transfer that is open where the recording ends
abbrev pub left_open : List Sent → List End
left_open frames = ends_with (closed (after_all nothing_heard frames).transfer 0 Unfinished) []

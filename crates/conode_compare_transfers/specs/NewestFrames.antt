-- Whose frame the newest one of an open transfer is, as long as each frame came in its turn: the
-- client's requests and the device's answers take turns, and segments of blocks follow one another
-- (CiA 301, 7.2.4.3).
use Rattle.std.specs.Prelude.{ℕ, ◌==◌, nat_le, if◌then◌else◌, Option, Some, None}
use Rattle.co_frame.specs.FrameContent.{FrameContent}
use Rattle.conode_explain_transfers.specs.declared.kinds.Side.{Side}
use Rattle.conode_explain_transfers.specs.declared.kinds.Side.TheVariants.{Client, Server}
use Rattle.conode_explain_transfers.specs.declared.kinds.What.{What}
use Rattle.conode_explain_transfers.specs.declared.kinds.What.TheVariants.{Initiate, Part, Segment, OutOfSequence}
use Rattle.conode_compare_transfers.specs.declared.newest.Newest.{Newest}
use Rattle.conode_compare_transfers.specs.declared.newest.Newest.TheVariants.{Request, Answer, Data, LastData, Acknowledge, LaterData, LaterAcknowledge, AllAcknowledged}
use Rattle.conode_compare_transfers.specs.Breaches.{byte_at}

-- a segment of a block download
abbrev pub goes_on : Option Newest → Option Newest
goes_on (Some newest) = Some Request
goes_on None = None

-- A segment of a block upload. After an acknowledge it may be of the sub-block before, which the
-- client may have acknowledged before its end. The first segment of that had come, so another one
-- with the number 1 is of the new sub-block, and so are all after it.
abbrev pub segment_after : ℕ → Option Newest → Option Newest
segment_after number (Some Acknowledge) = if number == 1 then Some Data else Some LaterData
segment_after number (Some LaterData) = Some LaterData
segment_after number (Some LaterAcknowledge) = Some LaterData
segment_after number (Some AllAcknowledged) = Some LaterData
segment_after number (Some newest) = Some Data
segment_after number None = None

-- the client's next frame: after an answer, or after the segments of a block, which it acknowledges
abbrev pub asks_after : Option Newest → Option Newest
asks_after (Some Answer) = Some Request
asks_after (Some Data) = Some Acknowledge
asks_after (Some (LastData number)) = Some Acknowledge
asks_after (Some LaterData) = Some LaterAcknowledge
asks_after other = None

-- the device's answer, after a request
abbrev pub answers_after : Option Newest → Option Newest
answers_after (Some Request) = Some Answer
answers_after (Some Acknowledge) = Some Answer
answers_after (Some LaterAcknowledge) = Some Answer
answers_after (Some AllAcknowledged) = Some Answer
answers_after other = None

abbrev pub client_newest : What → Option Newest → Option Newest
client_newest Initiate newest = Some Request
client_newest Part newest = asks_after newest
client_newest (Segment number) newest = goes_on newest
client_newest (OutOfSequence number awaited) newest = goes_on newest
client_newest what newest = None

abbrev pub server_newest : What → Option Newest → Option Newest
server_newest Part newest = answers_after newest
server_newest (Segment number) newest = segment_after number newest
server_newest (OutOfSequence number awaited) newest = segment_after number newest
server_newest what newest = None

-- whose frame the newest one is after a frame by an end
unfoldable pub newest_after : Side → What → Option Newest → Option Newest
newest_after Client what newest = client_newest what newest
newest_after Server what newest = server_newest what newest

-- ---- the last segment of a block upload

-- A segment with c = 1 is the last one. It is of the sub-block that the client asked for last, and
-- nothing of the upload is on its way after it.
abbrev pub last_after : ℕ → ℕ → Option Newest → Option Newest
last_after number first (Some Data) = if nat_le 128 first then Some (LastData number) else Some Data
last_after number first newest = newest

-- the client acknowledges it by its number: it has all segments
abbrev pub all_after : ℕ → Option Newest → Option Newest → Option Newest
all_after sequence (Some (LastData number)) next = if sequence == number then Some AllAcknowledged else next
all_after sequence newest next = next

-- whose frame the newest one is after a frame with these bytes
unfoldable pub newest_with : Side → What → FrameContent → Option Newest → Option Newest
newest_with Server (Segment number) frame newest = last_after number (byte_at frame 0) (newest_after Server (Segment number) newest)
newest_with Client Part frame newest = all_after (byte_at frame 1) newest (newest_after Client Part newest)
newest_with side what frame newest = newest_after side what newest

-- What an SDO channel has received and sent (CiA 301, 7.2.4.3).
use Rattle.std.specs.Prelude.{ℕ, ◌+◌, ◌==◌, ◌&&◌, Bool, true, false, List, [], ◌∷◌, length, map}
use Rattle.co_frame.specs.FrameContent.{FrameContent}
use Rattle.co_frame.specs.BlockSegments.{block_segment_bytes}
use Rattle.co_frame.specs.SdoResponses.{response_bytes}
use Rattle.co_frame.specs.declared.block_segment.BlockSegment.{BlockSegment}
use Rattle.co_frame.specs.declared.sdo_response.SdoResponse.{SdoResponse}
use Rattle.co_frame.specs.declared.sdo_response.SdoResponse.TheVariants.{Abort}
use Rattle.co_dict.specs.Rows.{Contents}

-- what a server sends: a response, or a segment of a block upload
pub data Answer : Type 0 where
  Response : SdoResponse → Answer
  Segment : BlockSegment → Answer

-- the eight bytes of an answer
abbrev pub answer_bytes : Answer → List ℕ
answer_bytes (Response response) = response_bytes response
answer_bytes (Segment segment) = block_segment_bytes segment

-- the frames of answers, on an identifier
abbrev pub frames_on : ℕ → List Answer → List FrameContent
frames_on id answers = map (λ answer. record { id = id; bytes = answer_bytes answer }) answers

-- an answer is an abort
abbrev pub is_abort : Answer → Bool
is_abort (Response (Abort key code)) = true
is_abort _ = false

-- a frame is a request of the channel: eight bytes on its request identifier
abbrev pub is_request_on : ℕ → FrameContent → Bool
is_request_on id frame = (frame.id == id) && (length frame.bytes == 8)

-- a request with its answers: its eight bytes, the contents of the entries when it came, and what
-- was answered
pub record Exchange : Type 0 where
  pub request : List ℕ
  pub contents : Contents
  pub answers : List Answer

-- an event of a channel
pub data Event : Type 0 where
  -- a request came and was answered
  Exchanged : Exchange → Event
  -- 1 ms elapsed
  Ticked : Event
  -- the transfer timed out, and this was sent
  TimedOut : List Answer → Event
  -- the transfer was dropped without an abort
  Dropped : Event

-- the events of a channel, newest first
abbrev pub Log : Type 0
Log = List Event

-- the exchanges among events
abbrev pub exchanges : Log → List Exchange
exchanges [] = []
exchanges (Exchanged x ∷ log) = x ∷ exchanges log
exchanges (Ticked ∷ log) = exchanges log
exchanges (TimedOut answers ∷ log) = exchanges log
exchanges (Dropped ∷ log) = exchanges log

-- the requests of exchanges
abbrev pub requests : List Exchange → List (List ℕ)
requests xs = map (λ x. x.request) xs

-- how many ticks came since the last request
abbrev pub ticks_quiet : Log → ℕ
ticks_quiet [] = 0
ticks_quiet (Exchanged x ∷ log) = 0
ticks_quiet (Ticked ∷ log) = ticks_quiet log + 1
ticks_quiet (TimedOut answers ∷ log) = ticks_quiet log
ticks_quiet (Dropped ∷ log) = ticks_quiet log

-- The transfer that a client is called for, and the events that it sees (CiA 301, 7.2.4.3).
use Rattle.std.specs.Prelude.{ℕ, ◌+◌, ◌&&◌, Bool, nat_lt, nat_le, List, [], ◌∷◌, map, Option, Some, None}
use Rattle.co_value.specs.declared.key.Key.{Key}
use Rattle.co_frame.specs.FrameContent.{FrameContent}
use Rattle.co_frame.specs.BlockSegments.{block_segment_bytes}
use Rattle.co_frame.specs.SdoRequests.{request_bytes}
use Rattle.co_frame.specs.declared.block_segment.BlockSegment.{BlockSegment}
use Rattle.co_frame.specs.declared.sdo_request.SdoRequest.{SdoRequest}
use Rattle.co_sdo_client.specs.declared.mode.Mode.{Mode}

-- what a client is to do
pub data Job : Type 0 where
  -- these bytes are written; their number is indicated at initiate if the flag is set
  Download : List ℕ → Bool → Job
  -- a value is read, of at most this many bytes
  Upload : ℕ → Job

-- the entry, the mode, the SDO timeout for an answer (in ms; 0 disables it), and the job
pub record Call : Type 0 where
  pub key : Key
  pub mode : Mode
  pub time : ℕ
  pub job : Job

-- a message that a client sends: a request, or a segment of a block download
pub data Message : Type 0 where
  Request : SdoRequest → Message
  Segment : BlockSegment → Message

-- the eight bytes of a message
abbrev pub message_bytes : Message → List ℕ
message_bytes (Request request) = request_bytes request
message_bytes (Segment segment) = block_segment_bytes segment

-- the frames of messages, on an identifier
abbrev pub frames_on : ℕ → List Message → List FrameContent
frames_on id messages = map (λ message. record { id = id; bytes = message_bytes message }) messages

-- an event at a client that has begun
pub data Event : Type 0 where
  -- a frame of eight bytes on the answer identifier came
  Answered : List ℕ → Event
  -- 1 ms elapsed
  Ticked : Event

-- the answers among events; both are newest first
abbrev pub answers : List Event → List (List ℕ)
answers [] = []
answers (Answered frame ∷ older) = frame ∷ answers older
answers (Ticked ∷ older) = answers older

-- how many ticks came since the last answer, or since the client began
abbrev pub ticks_quiet : List Event → ℕ
ticks_quiet [] = 0
ticks_quiet (Answered frame ∷ older) = 0
ticks_quiet (Ticked ∷ older) = ticks_quiet older + 1

-- no answer came in time; a time of 0 disables it
abbrev pub is_time_over : ℕ → List Event → Bool
is_time_over time events = nat_lt 0 time && nat_le time (ticks_quiet events)

-- the first answer, and those after it, newest first
pub record Answers : Type 0 where
  pub first : List ℕ
  pub later : List (List ℕ)

-- the first answer and those after it, with one more
abbrev pub with_answer : List ℕ → Option Answers → Answers
with_answer frame None = record { first = frame; later = [] }
with_answer frame (Some a) = record { first = a.first; later = frame ∷ a.later }

-- the answers as the first and those after it, if there is one
abbrev pub since_first : List (List ℕ) → Option Answers
since_first [] = None
since_first (frame ∷ older) = Some (with_answer frame (since_first older))

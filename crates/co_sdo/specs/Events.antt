-- The events of one call for all SDO channels: of one of them, or of each (CiA 301, 7.2.4.3).
use Rattle.std.specs.Prelude.{◌≡◌, ℕ, zero, suc, ◌==◌, List, [], ◌∷◌, length, Option, Some, None, option_map, if◌then◌else◌}
use Rattle.std.specs.List.{find}
use Rattle.std.specs.Option.{option_map_or}
use Rattle.co_frame.specs.FrameContent.{FrameContent}
use Rattle.co_dict.specs.Rows.{Contents}
use Rattle.co_dict.specs.Stores.{Description}
use Rattle.co_sdo.specs.Downloads.{Download}
use Rattle.co_sdo.specs.Log.{Answer, Event, Exchanged, Ticked, TimedOut, Log, frames_on}
use Rattle.co_sdo.specs.Completed.{set_by}
use Rattle.co_sdo.specs.Opened.{held_bytes, is_time_over}
use Rattle.co_sdo.specs.Replies.{reply_to, time_out_reply}
use Rattle.co_sdo.specs.Channels.{ChannelSettings}

-- an event of one channel, and what the channel sends at it
pub record ChannelEvent : Type 0 where
  pub channel : ChannelSettings
  pub event : Event
  pub responses : List Answer

-- the frames that are sent at an event, if there is one
abbrev pub frames_at : Option ChannelEvent → List FrameContent
frames_at None = []
frames_at (Some e) = frames_on e.channel.response e.responses

-- the logs after an event, if there is one: that of its channel is longer, the others stay
abbrev pub logs_after : Option ChannelEvent → (ℕ → Log) → ℕ → Log
logs_after None logs = logs
logs_after (Some e) logs = λ n. if n == e.channel.number then e.event ∷ logs n else logs n

-- the logs after an event of every channel
abbrev pub with_each : Event → (ℕ → Log) → ℕ → Log
with_each event logs = λ n. event ∷ logs n

-- the number of the channel of an event
abbrev pub number_in : Option ChannelEvent → Option ℕ
number_in found = option_map (λ e. e.channel.number) found

-- ---- a frame

-- the channel with the lowest number whose requests have an identifier
abbrev pub receiver : List ChannelSettings → ℕ → Option ChannelSettings
receiver channels id = find (λ c. c.request == id) channels

-- the number of that channel
abbrev pub number_for : List ChannelSettings → ℕ → Option ℕ
number_for channels id = option_map (λ c. c.number) (receiver channels id)

-- a channel answers a request
abbrev pub exchange_on : ChannelSettings → Description → Contents → Log → List ℕ → ChannelEvent
exchange_on c d contents log request = record {
  channel = c;
  event = Exchanged (record { request = request; contents = contents; answers = reply_to d contents log request });
  responses = reply_to d contents log request;
}

abbrev pub exchange_at : Option ChannelSettings → Description → Contents → (ℕ → Log) → FrameContent → Option ChannelEvent
exchange_at None d contents logs frame = None
exchange_at (Some c) d contents logs frame =
    if length frame.bytes == 8 then Some (exchange_on c d contents (logs c.number) frame.bytes) else None

-- the exchange at a frame: of its receiver, if the frame has eight bytes
abbrev pub exchange_of : List ChannelSettings → Description → Contents → (ℕ → Log) → FrameContent → Option ChannelEvent
exchange_of channels d contents logs frame = exchange_at (receiver channels frame.id) d contents logs frame

-- the download that an exchange sets
abbrev pub set_at : Option ChannelEvent → Description → Contents → (ℕ → Log) → FrameContent → Option Download
set_at None d contents logs frame = None
set_at (Some e) d contents logs frame = set_by d contents (logs e.channel.number) frame.bytes

-- the download that a frame sets
abbrev pub set_of : List ChannelSettings → Description → Contents → (ℕ → Log) → FrameContent → Option Download
set_of channels d contents logs frame = set_at (exchange_of channels d contents logs frame) d contents logs frame

-- ---- the time of a transfer

-- the channel with the lowest number that has timed out
abbrev pub expired_in : List ChannelSettings → (ℕ → Log) → Option ChannelSettings
expired_in channels logs = find (λ c. is_time_over c.time (logs c.number)) channels

-- a channel aborts its transfer
abbrev pub time_out_on : ChannelSettings → Log → ChannelEvent
time_out_on c log = record { channel = c; event = TimedOut (time_out_reply log); responses = time_out_reply log }

-- the time-out after a tick: of the lowest channel that has timed out. The others stay open
abbrev pub time_out_of : List ChannelSettings → (ℕ → Log) → Option ChannelEvent
time_out_of channels logs = option_map (λ c. time_out_on c (logs c.number)) (expired_in channels logs)

-- no transfer times out within the next `n` ticks
abbrev pub NoTimeOutFor : List ChannelSettings → ℕ → (ℕ → Log) → Type 0
NoTimeOutFor channels zero logs = Unit {0}
NoTimeOutFor channels (suc n) logs =
    (time_out_of channels (with_each Ticked logs) ≡ None) × NoTimeOutFor channels n (with_each Ticked logs)

-- ---- the bytes that are held

-- how many bytes the channel with a number holds; 0 if there is none
abbrev pub held_on : List ChannelSettings → (ℕ → Log) → ℕ → ℕ
held_on channels logs number = option_map_or (λ c. held_bytes (logs c.number)) (find (λ c. c.number == number) channels) 0

-- A client and a channel with a queue of frames each way (CiA 301, 7.2.4.2): the frames on their
-- way, and the events at each end. All frames have eight bytes.
use Rattle.std.specs.Prelude.{ℕ, ◌+◌, Bool, true, false, List, [], ◌∷◌, ◌++◌, drop, map, if◌then◌else◌}
use Rattle.co_sdo_client.specs.Calls.{Call, message_bytes, Event as ClientEvent, Answered, Ticked as TickedAtClient}
use Rattle.co_sdo_client.specs.Outcomes.{asked}
use Rattle.co_dict.specs.Rows.{Contents}
use Rattle.co_dict.specs.Stores.{Description}
use Rattle.co_sdo.specs.Log.{Answer, answer_bytes, Exchanged, Ticked, TimedOut, Log}
use Rattle.co_sdo.specs.Opened.{is_time_over}
use Rattle.co_sdo.specs.Replies.{reply_to, time_out_reply}
use Rattle.co_sdo.specs.Completed.{set_by, contents_with}

-- the call of the client, the SDO timeout of the channel (in ms; 0 disables it), and the
-- dictionary; its contents and the events of the channel, newest first, are those when the client
-- begins
pub record Setup : Type 0 where
  pub call : Call
  pub time : ℕ
  pub description : Description
  pub contents : Contents
  pub past : Log

-- both ends, and what is between them
pub record World : Type 0 where
  -- what happened to the client, newest first
  pub events : List ClientEvent
  -- what happened to the channel, newest first
  pub log : Log
  -- how many requests it has received since the client began
  pub received : ℕ
  -- the bytes of the entries
  pub contents : Contents
  -- the requests that are on their way, oldest first
  pub requests : List (List ℕ)
  -- the answers that are on their way, oldest first
  pub answers : List (List ℕ)

-- the way to the channel, and the way back
pub data Queue : Type 0 where
  Requests : Queue
  Answers : Queue

-- an event
pub data WorldEvent : Type 0 where
  -- the oldest frame of a queue arrives
  Delivered : Queue → WorldEvent
  -- it is lost
  Lost : Queue → WorldEvent
  -- it arrives, and will arrive again
  Repeated : Queue → WorldEvent
  -- 1 ms elapses at the client
  ClientTicked : WorldEvent
  -- 1 ms elapses at the channel
  ChannelTicked : WorldEvent

-- an event at which a frame arrives, and will arrive again
abbrev pub is_repeat : WorldEvent → Bool
is_repeat (Repeated queue) = true
is_repeat event = false

-- the client has begun, and nothing has happened since
abbrev pub first_world : Setup → World
first_world s = record { events = []; log = s.past; received = 0; contents = s.contents; requests = map message_bytes (asked s.call []); answers = [] }

-- an event at the client: the requests that it sends then follow those on their way
abbrev pub at_client : Setup → ClientEvent → World → World
at_client s event w = record w {
  events = event ∷ w.events;
  requests = w.requests ++ map message_bytes (asked s.call (event ∷ w.events));
}

-- new answers follow those on their way
abbrev pub with_answers : List Answer → World → World
with_answers answers w = record w { answers = w.answers ++ map answer_bytes answers }

-- a request arrives at the channel: its answers follow those on their way
abbrev pub at_channel : Setup → List ℕ → World → World
at_channel s frame w =
    let answers = reply_to s.description w.contents w.log frame in
    with_answers answers (record w {
      log = Exchanged (record { request = frame; contents = w.contents; answers = answers }) ∷ w.log;
      received = w.received + 1;
      contents = contents_with w.contents (set_by s.description w.contents w.log frame);
    })

-- the channel aborts a transfer that has timed out
abbrev pub timed_out : World → World
timed_out w = with_answers (time_out_reply w.log) (record w { log = TimedOut (time_out_reply w.log) ∷ w.log })

-- a tick at the channel alone
abbrev pub ticked : World → World
ticked w = record w { log = Ticked ∷ w.log }

-- 1 ms elapses at the channel
abbrev pub channel_ticked : Setup → World → World
channel_ticked s w = if is_time_over s.time (Ticked ∷ w.log) then timed_out (ticked w) else ticked w

-- the frames of a queue
abbrev pub on_way : Queue → World → List (List ℕ)
on_way Requests w = w.requests
on_way Answers w = w.answers

-- a queue without its oldest frame
abbrev pub without_front : Queue → World → World
without_front Requests w = record w { requests = drop 1 w.requests }
without_front Answers w = record w { answers = drop 1 w.answers }

-- a frame arrives at the end that its queue leads to
abbrev pub arrives : Setup → Queue → List ℕ → World → World
arrives s Requests frame w = at_channel s frame w
arrives s Answers frame w = at_client s (Answered frame) w

-- the oldest of these frames arrives; if there is none, nothing happens
abbrev pub front_arrives : Setup → Queue → List (List ℕ) → World → World
front_arrives s queue [] w = w
front_arrives s queue (frame ∷ later) w = arrives s queue frame w

-- one more event
abbrev pub after_event : Setup → WorldEvent → World → World
after_event s (Delivered queue) w = front_arrives s queue (on_way queue w) (without_front queue w)
after_event s (Lost queue) w = without_front queue w
after_event s (Repeated queue) w = front_arrives s queue (on_way queue w) w
after_event s ClientTicked w = at_client s TickedAtClient w
after_event s ChannelTicked w = channel_ticked s w

-- the world after events, newest first
abbrev pub world_after : Setup → List WorldEvent → World
world_after s [] = first_world s
world_after s (event ∷ older) = after_event s event (world_after s older)

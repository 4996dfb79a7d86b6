-- The SDO server: the channels of a device (CiA 301, 7.2.4).
use Rattle.std.specs.Prelude.{ℕ, Bool, true, false, ◌||◌, [], ◌∷◌, if◌then◌else◌, is_some, Option}
use Rattle.co_frame.specs.FrameContent.{FrameContent}
use Rattle.co_sdo.specs.Log.{Log, Ticked, Dropped}
use Rattle.co_sdo.specs.Completed.{contents_with, key_set}
use Rattle.co_sdo.specs.Events.{with_each, logs_after, exchange_of, set_of, ChannelEvent, time_out_of}
use Rattle.co_node_parts.specs.declared.nmt_state.NodeState.TheVariants.{Stopped}
use Rattle.co_node_parts.specs.NmtStates.{enters, is_state}
use Rattle.co_node_model.specs.Nmt.{transition_of, is_reset, state_at}
use Rattle.co_node_model.specs.Moments.{Moment, History, Constants, channels}
use Rattle.co_node_model.specs.declared.mark.Mark.TheVariants as was
use Rattle.co_node_model.specs.Marks.{marked_tick, written_mark}

-- ---- the log of each channel: requests with their responses, ticks, time-outs and drops

-- the logs with a tick of every channel, if the flag is set
abbrev pub with_channel_ticks : Bool → (ℕ → Log) → ℕ → Log
with_channel_ticks true logs = with_each Ticked logs
with_channel_ticks false logs = logs

-- the logs with a drop of every transfer, if the flag is set
abbrev pub with_drop : Bool → (ℕ → Log) → ℕ → Log
with_drop true logs = with_each Dropped logs
with_drop false logs = logs

-- a reset, and entering stopped, drop all transfers
abbrev pub drops : Moment → History → Bool
drops m history = is_reset m.mark || enters Stopped (transition_of m history)

-- the log of each channel, by its number
abbrev pub channel_logs : History → ℕ → Log
channel_logs [] = λ j. []
channel_logs (m ∷ history) =
    with_drop (drops m history)
    (logs_after m.timed_out (with_channel_ticks (marked_tick m.mark) (logs_after m.exchange (channel_logs history))))

-- ---- a frame to a channel: not while stopped; one that hasn't eight bytes is ignored

-- the moment with a frame to a channel, by the log of each channel
abbrev pub with_request : Constants → (ℕ → Log) → FrameContent → Moment → Moment
with_request k logs frame m =
    let set = set_of (channels k) k.description m.received logs frame in
    record m {
      mark = written_mark (key_set set);
      exchange = exchange_of (channels k) k.description m.received logs frame;
      received = contents_with m.received set;
    }

-- the moment with a frame to a channel
abbrev pub with_channel_frame : Constants → History → FrameContent → Moment → Moment
with_channel_frame k history frame m =
    if is_state Stopped (state_at history) then m else with_request k (channel_logs history) frame m

-- ---- a tick: the lowest channel that has timed out aborts its transfer; the others wait

-- the moment with a tick
abbrev pub with_tick : Option ChannelEvent → Moment → Moment
with_tick timed_out m =
    record m { mark = was.Tick (is_some timed_out); timed_out = timed_out }

-- the channel that times out, with its abort
abbrev pub timed_out_at : Constants → History → Option ChannelEvent
timed_out_at k history = time_out_of (channels k) (with_each Ticked (channel_logs history))

-- The results of receiving a frame, a tick and an application event.
use Rattle.std.specs.Prelude.{◌≡◌, Bool, is_some, List, [], ◌++◌, ◌||◌, Option}
use Rattle.co_frame.specs.FrameContent.{FrameContent}
use Rattle.co_dict.specs.Rows.{Contents}
use Rattle.co_dict.specs.Stores.{Description}
use Rattle.co_sdo.specs.declared.channels.NumberedChannel.{NumberedChannel}
use Rattle.co_sdo.specs.Banks.{BankStands}
use Rattle.co_sdo.specs.Events.{ChannelEvent, frames_at}
use Rattle.co_node_model.specs.Inputs.{AppView, Framed, Applied}
use Rattle.co_node_model.specs.AppEvents.{event_refusal, with_app_event}
use Rattle.co_node_model.specs.Moments.{Constants, Moment, History, channels, contents_at, nothing_of}
use Rattle.co_node_model.specs.declared.address.Address.{Address}
use Rattle.co_node_model.specs.declared.app_answer.AppAnswer.TheVariants as answer
use Rattle.co_node_model.specs.declared.mark.Mark.{Mark}
use Rattle.co_node_model.specs.Device.{with_frame}
use Rattle.co_node_model.specs.declared.mark.Mark.TheVariants as was
use Rattle.co_node_model.specs.Marks.{marked_event, marked_sync, marked_tick}
use Rattle.co_node_device.specs.Befores.{logs_received}

-- the mark, the entries, the frames in the outbox and the SDO channels are those of a moment
-- without an application event
pub record IsFrameReceived (d : Description) (k : Constants) (history : History) (m : Moment)
    (marked : Mark) (entries : Contents) (before after : List FrameContent) (bank : List NumberedChannel) : Type 0 where
  pub mark : marked ≡ m.mark
  pub contents : entries ≡ m.received
  pub frames : after ≡ before ++ (frames_at m.exchange ++ frames_at m.timed_out)
  pub channels : BankStands d (channels k) bank (logs_received m history)
  pub app : m.app ≡ answer.None
  pub raised : m.raised_by_app ≡ []

-- the moment of a frame, by its addressee
abbrev pub frame_moment : Constants → History → Address → FrameContent → Moment
frame_moment k history address frame =
    with_frame k history address frame (nothing_of (Framed frame) (contents_at k history))

-- the mark of a tick, by the SDO channel that timed out, if any
abbrev pub tick_mark : Option ChannelEvent → Mark
tick_mark timed_out = was.Tick (is_some timed_out)

-- TPDOs may be due at an input with this mark: a tick, a SYNC, or an application event of TPDOs
abbrev pub may_be_due : Mark → Bool
may_be_due mark = marked_tick mark || (is_some (marked_sync mark) || is_some (marked_event mark))

-- the moment of an application event, with these entries
abbrev pub app_moment : Description → Contents → AppView → Moment
app_moment d contents event =
    with_app_event d event (event_refusal d contents event) (nothing_of (Applied event) contents)

-- One input of a device and its effects, service by service.
use Rattle.std.specs.Prelude.{ℕ, List, Option, [], ◌∷◌, None}
use Rattle.co_frame.specs.declared.emergency.Emergency.{Emergency}
use Rattle.co_frame.specs.declared.heartbeat.Heartbeat.{Heartbeat}
use Rattle.co_dict.specs.Rows.{Contents}
use Rattle.co_dict.specs.Stores.{Description}
use Rattle.co_sdo.specs.Channels.{ChannelSettings, channels_of}
use Rattle.co_sdo.specs.Events.{ChannelEvent}
use Rattle.co_node_parts.specs.declared.nmt_state.StateEvent.{StateEvent}
use Rattle.co_node_parts.specs.declared.rpdo_slots.KeptFrame.{KeptFrame}
use Rattle.co_node_parts.specs.declared.nmt_state.StateEvent.TheVariants as state
use Rattle.co_node_model.specs.Inputs.{InputView}
use Rattle.co_node_model.specs.declared.app_answer.AppAnswer.{AppAnswer}
use Rattle.co_node_model.specs.declared.mark.Mark.{Mark}
use Rattle.co_node_model.specs.declared.app_answer.AppAnswer.TheVariants as answer
use Rattle.co_node_model.specs.declared.mark.Mark.TheVariants as was

-- what never changes of a device: the description of its dictionary, the contents with which it was
-- built, the greatest capacity of an entry, and the SDO timeout in ms (0 disables it)
pub record Constants : Type 0 where
  pub description : Description
  pub start : Contents
  pub greatest : ℕ
  pub time : ℕ

-- its SDO channels, by number (CiA 301, 7.5.2.33)
abbrev pub channels : Constants → List ChannelSettings
channels k = channels_of k.description k.start k.greatest k.time

-- one input and its effects; each field follows from the older moments and the fields before it
pub record Moment : Type 0 where
  pub input : InputView
  -- as received: the mark; the exchange on an SDO channel; the channel that timed out, with its
  -- abort; the answer to an application event; the emergencies that this event queued; the contents
  -- then
  pub mark : Mark
  pub exchange : Option ChannelEvent
  pub timed_out : Option ChannelEvent
  pub app : AppAnswer
  pub raised_by_app : List Emergency
  pub received : Contents
  -- heartbeat consumers: the sub-indices of 1016h whose heartbeat is lost; the emergencies that
  -- this queued; the contents then; the event of the NMT state
  pub lost : List ℕ
  pub raised_by_loss : List Emergency
  pub watched : Contents
  pub loss : StateEvent
  -- SYNC and RPDOs: the frames whose data took effect; the emergencies that these queued; the
  -- contents at the end
  pub taken : List KeptFrame
  pub raised_by_pdo : List Emergency
  pub contents : Contents
  -- the frames sent besides SDO: an emergency; the boot-up or a heartbeat; the TPDOs with these
  -- numbers
  pub emergency : Option Emergency
  pub life : Option Heartbeat
  pub due : List ℕ

-- the newest first
abbrev pub History : Type 0
History = List Moment

-- the contents after a history
abbrev pub contents_at : Constants → History → Contents
contents_at k [] = k.start
contents_at k (m ∷ history) = m.contents

-- an input without any effect
abbrev pub nothing_of : InputView → Contents → Moment
nothing_of input contents = record {
  input = input;
  mark = was.Quiet;
  exchange = None;
  timed_out = None;
  app = answer.None;
  raised_by_app = [];
  received = contents;
  lost = [];
  raised_by_loss = [];
  watched = contents;
  loss = state.Quiet;
  taken = [];
  raised_by_pdo = [];
  contents = contents;
  emergency = None;
  life = None;
  due = [];
}

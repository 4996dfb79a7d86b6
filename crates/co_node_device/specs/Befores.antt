-- A device before it receives an input.
use Rattle.std.specs.Prelude.{◌≡◌, ℕ, List}
use Rattle.co_frame.specs.FrameContent.{FrameContent}
use Rattle.co_dict.specs.Rows.{Contents}
use Rattle.co_dict.specs.Stores.{Description}
use Rattle.co_sdo.specs.Log.{Log}
use Rattle.co_sdo.specs.declared.channels.NumberedChannel.{NumberedChannel}
use Rattle.co_sdo.specs.Banks.{BankStands}
use Rattle.co_sdo.specs.Events.{logs_after}
use Rattle.co_node_parts.specs.declared.nmt_state.NodeState.{NodeState}
use Rattle.co_node_model.specs.Moments.{Constants, Moment, History, channels, contents_at}
use Rattle.co_node_model.specs.Nmt.{state_at}
use Rattle.co_node_model.specs.Sdo.{channel_logs, with_channel_ticks}
use Rattle.co_node_model.specs.declared.address.Address.{Address}
use Rattle.co_node_model.specs.Addresses.{address_at}
use Rattle.co_node_model.specs.Marks.{marked_tick}
use Rattle.co_node_device.specs.declared.given.Given.{Given}
use Rattle.co_node_device.specs.declared.given.Given.TheVariants.{Frame, Tick, App, WriteAt}

-- its description, entries, SDO channels and NMT state are those after a history
pub record IsBefore (k : Constants) (history : History) (d : Description) (entries : Contents)
    (bank : List NumberedChannel) (now : NodeState) : Type 0 where
  pub description : d ≡ k.description
  pub contents : entries ≡ contents_at k history
  pub channels : BankStands d (channels k) bank (channel_logs history)
  pub state : now ≡ state_at history

-- if the input is a frame, this is its addressee
abbrev pub IsAddressed : Constants → History → Given → Address → FrameContent → Type 0
IsAddressed k history Frame address frame = address ≡ address_at k history frame.id
IsAddressed k history Tick address frame = Unit {0}
IsAddressed k history (App event) address frame = Unit {0}
IsAddressed k history (WriteAt place key bytes) address frame = Unit {0}

-- the log of each SDO channel after an input was received, before transfers are dropped
abbrev pub logs_received : Moment → History → ℕ → Log
logs_received m history =
    logs_after m.timed_out (with_channel_ticks (marked_tick m.mark) (logs_after m.exchange (channel_logs history)))

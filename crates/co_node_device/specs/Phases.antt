-- A device within one input, a moment after a history: once the input was received, and once it
-- took effect. The frames besides SDO are sent after that.
use Rattle.std.specs.Prelude.{◌≡◌, List, ◌∷◌, ◌++◌, map}
use Rattle.co_frame.specs.FrameContent.{FrameContent}
use Rattle.co_dict.specs.Rows.{Contents}
use Rattle.co_dict.specs.Stores.{Description}
use Rattle.co_sdo.specs.Banks.{BankStands}
use Rattle.co_pdo.specs.Schedules.{IsScheduleAfter}
use Rattle.co_node_parts.specs.ConsumerTables.{ConsumersStand}
use Rattle.co_node_parts.specs.EmergencyQueues.{EmergenciesStand, with_queued}
use Rattle.co_node_parts.specs.Producers.{ProducerStands}
use Rattle.co_node_parts.specs.declared.nmt_state.Transition.{Transition}
use Rattle.co_node_model.specs.Moments.{Constants, Moment, History, channels, contents_at}
use Rattle.co_node_model.specs.Nmt.{state_at, transition_of}
use Rattle.co_node_model.specs.Sdo.{channel_logs}
use Rattle.co_node_model.specs.Heartbeats.{consumers_log, life_frames, producer_log}
use Rattle.co_node_model.specs.Emergencies.{emergency_frames, emergency_log}
use Rattle.co_node_model.specs.Rpdos.{slot_log}
use Rattle.co_node_model.specs.Tpdos.{schedule_log, tpdo_frame}
use Rattle.co_node_model.specs.declared.mark.Mark.{Mark}
use Rattle.co_node_device.specs.AddressTables.{IsTableOf}
use Rattle.co_node_device.specs.MappingTables.{AreMappings}
use Rattle.co_node_device.specs.SlotTables.{AreSlotsOf}
use Rattle.co_node_device.specs.Befores.{logs_received}
use Rattle.co_node_device.specs.Lasts.{seen_of}
use Rattle.co_node_device.specs.declared.parts.Parts.{Parts}

-- the input was received: it has changed entries, SDO channels and emergencies; all else is as
-- after the history
pub record IsReceived (k : Constants) (h : History) (m : Moment) (d : Description) (entries : Contents) (parts : Parts) (marked : Mark) : Type 0 where
  pub description : d ≡ k.description
  pub contents : entries ≡ m.received
  pub mark : marked ≡ m.mark
  pub state : parts.state ≡ state_at h
  pub channels : BankStands d (channels k) parts.bank (logs_received m h)
  pub addresses : IsTableOf (contents_at k h) parts.addresses
  pub mappings : AreMappings d (contents_at k h) parts.mappings
  pub consumers : ConsumersStand parts.consumers (consumers_log k h)
  pub emergencies : EmergenciesStand parts.emergencies (with_queued m.raised_by_app (emergency_log h))
  pub slots : AreSlotsOf d parts.slots (slot_log k h)
  pub producer : ProducerStands parts.producer (producer_log k h)
  pub schedule : IsScheduleAfter d parts.schedule (schedule_log k h)
  pub app : parts.last_app ≡ m.app
  pub seen : parts.last_seen ≡ seen_of m.mark

-- the input took effect: entries and parts are those at its end, but for the sending of
-- emergencies, heartbeats and TPDOs
pub record TookEffect (k : Constants) (h : History) (m : Moment) (d : Description) (entries : Contents) (parts : Parts) (marked : Mark) (t : Transition) : Type 0 where
  pub description : d ≡ k.description
  pub contents : entries ≡ m.contents
  pub mark : marked ≡ m.mark
  pub transition : t ≡ transition_of m h
  pub state : parts.state ≡ state_at (m ∷ h)
  pub channels : BankStands d (channels k) parts.bank (channel_logs (m ∷ h))
  pub addresses : IsTableOf entries parts.addresses
  pub mappings : AreMappings d entries parts.mappings
  pub consumers : ConsumersStand parts.consumers (consumers_log k (m ∷ h))
  pub emergencies : EmergenciesStand parts.emergencies
      (with_queued m.raised_by_pdo (with_queued m.raised_by_loss (with_queued m.raised_by_app (emergency_log h))))
  pub slots : AreSlotsOf d parts.slots (slot_log k (m ∷ h))
  pub producer : ProducerStands parts.producer (producer_log k h)
  pub schedule : IsScheduleAfter d parts.schedule (schedule_log k h)
  pub app : parts.last_app ≡ m.app
  pub seen : parts.last_seen ≡ seen_of m.mark
  pub lost : parts.lost.items ≡ m.lost

-- these frames, then those besides SDO: EMCY, boot-up or heartbeat, TPDOs by number
abbrev pub with_sent : Constants → Moment → List FrameContent → List FrameContent
with_sent k m sent =
    sent ++ emergency_frames m.contents m.emergency ++ life_frames k.description.node m.life
    ++ map (tpdo_frame k.description m.contents) m.due

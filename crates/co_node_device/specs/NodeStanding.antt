-- A device after all its inputs: its entries and each part are in the state that the history
-- prescribes.
use Rattle.std.specs.Prelude.{◌≡◌}
use Rattle.co_dict.specs.Rows.{Contents}
use Rattle.co_dict.specs.Stores.{Description}
use Rattle.co_sdo.specs.Banks.{BankStands}
use Rattle.co_node_parts.specs.ConsumerTables.{ConsumersStand}
use Rattle.co_node_parts.specs.EmergencyQueues.{EmergenciesStand}
use Rattle.co_node_parts.specs.Producers.{ProducerStands}
use Rattle.co_pdo.specs.Schedules.{IsScheduleAfter}
use Rattle.co_node_model.specs.Inputs.{Inputs}
use Rattle.co_node_device.specs.AddressTables.{IsTableOf}
use Rattle.co_node_device.specs.Lasts.{last_losses, last_seen}
use Rattle.co_node_device.specs.MappingTables.{AreMappings}
use Rattle.co_node_device.specs.SlotTables.{AreSlotsOf}
use Rattle.co_node_model.specs.Moments.{Constants, channels}
use Rattle.co_node_model.specs.Sdo.{channel_logs}
use Rattle.co_node_model.specs.Heartbeats.{consumers_log, producer_log}
use Rattle.co_node_model.specs.Emergencies.{emergency_log}
use Rattle.co_node_model.specs.Rpdos.{slot_log}
use Rattle.co_node_model.specs.Tpdos.{schedule_log}
use Rattle.co_node_model.specs.Device.{moments, state_of, contents_of, app_after}
use Rattle.co_node_device.specs.declared.parts.Parts.{Parts}

-- this device is in the state after these inputs, newest first
pub record NodeStands (k : Constants) (d : Description) (entries : Contents) (parts : Parts) (inputs : Inputs) : Type 0 where
  pub description : d ≡ k.description
  pub contents : entries ≡ contents_of k inputs
  pub state : parts.state ≡ state_of k inputs
  pub channels : BankStands d (channels k) parts.bank (channel_logs (moments k inputs))
  pub addresses : IsTableOf entries parts.addresses
  pub mappings : AreMappings d entries parts.mappings
  pub consumers : ConsumersStand parts.consumers (consumers_log k (moments k inputs))
  pub emergencies : EmergenciesStand parts.emergencies (emergency_log (moments k inputs))
  pub slots : AreSlotsOf d parts.slots (slot_log k (moments k inputs))
  pub producer : ProducerStands parts.producer (producer_log k (moments k inputs))
  pub schedule : IsScheduleAfter d parts.schedule (schedule_log k (moments k inputs))
  pub app : parts.last_app ≡ app_after k inputs
  pub seen : parts.last_seen ≡ last_seen k inputs
  pub lost : parts.lost.items ≡ last_losses k inputs

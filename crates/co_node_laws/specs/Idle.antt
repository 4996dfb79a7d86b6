-- Ticks at which no part of a device has anything due, by the log of each part.
use Rattle.std.specs.Prelude.{◌≡◌, ℕ, false}
use Rattle.co_sdo.specs.Events.{NoTimeOutFor}
use Rattle.co_pdo.specs.Schedules.{NoTpdoDueFor}
use Rattle.co_node_parts.specs.declared.nmt_state.NodeState.TheVariants.{Operational}
use Rattle.co_node_parts.specs.ConsumerTables.{NoneLostFor}
use Rattle.co_node_parts.specs.EmergencyQueues.{NoneSentFor}
use Rattle.co_node_parts.specs.Producers.{NoneDueFor}
use Rattle.co_node_model.specs.declared.mark.Mark.TheVariants as was
use Rattle.co_node_model.specs.Emergencies.{emergency_log, may_send}
use Rattle.co_node_model.specs.Heartbeats.{consumers_log, producer_log}
use Rattle.co_node_model.specs.Moments.{Constants, History, channels, contents_at}
use Rattle.co_node_model.specs.Nmt.{state_at}
use Rattle.co_node_model.specs.Sdo.{channel_logs}
use Rattle.co_node_model.specs.Tpdos.{schedule_log}

-- at none of the next `count` ticks an SDO transfer times out, a heartbeat of another node is lost,
-- or an emergency, a heartbeat or (in operational) a TPDO is due
pub record NothingDueFor (k : Constants) (history : History) (count : ℕ) : Type 0 where
  pub transfers : NoTimeOutFor (channels k) count (channel_logs history)
  pub consumers : NoneLostFor count (consumers_log k history)
  pub emergencies : NoneSentFor (may_send (was.Tick false) (state_at history) (contents_at k history)) count (emergency_log history)
  pub producer : NoneDueFor count (producer_log k history)
  pub tpdos : state_at history ≡ Operational → NoTpdoDueFor (contents_at k history) count (schedule_log k history)

-- Of a device that stands nothing is due for as many ticks as of none of its parts.
use Rattle.std.proofs.Common.{◌≡◌, ℕ, Bool, false, sym, ap, ◌∙◌, subst}
use Rattle.co_dict.specs.Rows.{Contents}
use Rattle.co_sdo.specs.Events.{NoTimeOutFor}
use Rattle.co_pdo.specs.Schedules.{AllCurrent, NoTpdoDueFor}
use Rattle.co_node_parts.specs.declared.nmt_state.NodeState.{NodeState}
use Rattle.co_node_parts.specs.declared.nmt_state.NodeState.TheVariants.{Operational}
use Rattle.co_node_parts.specs.ConsumerTables.{NoneLostFor}
use Rattle.co_node_parts.specs.EmergencyQueues.{NoneSentFor}
use Rattle.co_node_parts.specs.Producers.{NoneDueFor}
use Rattle.co_node_model.specs.declared.mark.Mark.TheVariants as was
use Rattle.co_node_model.specs.Device.{contents_of, moments, state_of}
use Rattle.co_node_model.specs.Emergencies.{emergency_log, may_send}
use Rattle.co_node_model.specs.Heartbeats.{consumers_log, producer_log}
use Rattle.co_node_model.specs.Inputs.{Inputs}
use Rattle.co_node_model.specs.Moments.{Constants, channels}
use Rattle.co_node_model.specs.Sdo.{channel_logs}
use Rattle.co_node_model.specs.Tpdos.{schedule_log}
use Rattle.co_node_laws.specs.Idle.{NothingDueFor}

-- by the entries and the state that the device has
pub nothing_due : (k : Constants) (inputs : Inputs) (n : ℕ) (entries : Contents) (state : NodeState) (may : Bool)
    → entries ≡ contents_of k inputs → state ≡ state_of k inputs → may ≡ may_send (was.Tick false) state entries
    → NoTimeOutFor (channels k) n (channel_logs (moments k inputs)) → NoneLostFor n (consumers_log k (moments k inputs))
    → NoneSentFor may n (emergency_log (moments k inputs)) → NoneDueFor n (producer_log k (moments k inputs))
    → (state ≡ Operational → NoTpdoDueFor entries n (schedule_log k (moments k inputs)))
    → NothingDueFor k (moments k inputs) n
nothing_due k inputs n entries state may contents is asked transfers consumers emergencies producer tpdos = record {
  transfers = transfers;
  consumers = consumers;
  emergencies = subst (λ (b : Bool). NoneSentFor b n (emergency_log (moments k inputs)))
      (asked ∙ ap (λ (s : NodeState). may_send (was.Tick false) s entries) is ∙ ap (may_send (was.Tick false) (state_of k inputs)) contents) emergencies;
  producer = producer;
  tpdos = λ op. subst (λ (c : Contents). NoTpdoDueFor c n (schedule_log k (moments k inputs))) contents (tpdos (is ∙ op));
}

-- what the dictionary says is current in operational, by the entries and the state that the device has
pub current_now : (k : Constants) (inputs : Inputs) (entries : Contents) (state : NodeState) → entries ≡ contents_of k inputs → state ≡ state_of k inputs
    → (state_of k inputs ≡ Operational → AllCurrent (contents_of k inputs) (schedule_log k (moments k inputs)))
    → state ≡ Operational → AllCurrent entries (schedule_log k (moments k inputs))
current_now k inputs entries state contents is current op =
    subst (λ (c : Contents). AllCurrent c (schedule_log k (moments k inputs))) (sym contents) (current (sym is ∙ op))

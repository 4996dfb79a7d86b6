-- An application event that is refused does what a frame for nobody does, but for the answer.
use Rattle.std.proofs.Common.{◌≡◌, ℕ, List, ◌∷◌, Some, sym, ap, ◌∙◌, subst}
use Rattle.co_frame.specs.FrameContent.{FrameContent}
use Rattle.co_dict.specs.Rows.{Contents}
use Rattle.co_dict.specs.Stores.{Description}
use Rattle.co_sdo.specs.Banks.{BankStands}
use Rattle.co_node_parts.specs.ConsumerTables.{ConsumersStand}
use Rattle.co_node_parts.specs.EmergencyQueues.{EmergenciesStand}
use Rattle.co_node_parts.specs.Producers.{ProducerStands}
use Rattle.co_pdo.specs.Schedules.{IsScheduleAfter}
use Rattle.co_node_model.specs.declared.address.Address.{Address}
use Rattle.co_node_model.specs.declared.address.Address.TheVariants.{Nobody}
use Rattle.co_node_model.specs.declared.app_answer.AppAnswer.{AppAnswer}
use Rattle.co_node_model.specs.declared.app_answer.AppAnswer.TheVariants as answer
use Rattle.co_node_model.specs.Addresses.{address_at}
use Rattle.co_node_model.specs.AppEvents.{answer_with, event_refusal, with_app_event}
use Rattle.co_node_model.specs.Inputs.{AppView, Applied, Framed, Inputs, InputView}
use Rattle.co_node_model.specs.Moments.{Constants, History, Moment, channels, contents_at, nothing_of}
use Rattle.co_node_model.specs.Nmt.{state_at}
use Rattle.co_node_model.specs.Sdo.{channel_logs}
use Rattle.co_node_model.specs.Heartbeats.{consumers_log, producer_log, with_life, with_losses}
use Rattle.co_node_model.specs.Emergencies.{emergency_log, with_emergency}
use Rattle.co_node_model.specs.Rpdos.{slot_log, with_pdos}
use Rattle.co_node_model.specs.Tpdos.{schedule_log, with_tpdos}
use Rattle.co_node_model.specs.Device.{contents_of, frames, moment, moments, prescribed, with_frame}
use Rattle.co_node_laws.proofs.EventAnswers.{none_to_frame, to_event}
use Rattle.co_node_laws.proofs.Kept.{event_refused}
use Rattle.co_node_device.specs.declared.parts.Parts.{Parts}
use Rattle.co_node_device.specs.Lasts.{seen_of}
use Rattle.co_node_device.specs.NodeStanding.{NodeStands}
use Rattle.co_node_device.specs.SlotTables.{AreSlotsOf}
use Rattle.co_node.specs.declared.node.Node.{Node}
use Rattle.co_node.specs.Nodes.{Stands, description_of, entries_of}
use Rattle.co_node.specs.Refused.{AsForNobody}

-- a moment of another input with another answer
abbrev with_answer : InputView → AppAnswer → Moment → Moment
with_answer input app m = record m { input = input; app = app }

-- what the services make of what was received
abbrev served : Constants → History → Moment → Moment
served k history m = with_tpdos k history (with_life k history (with_emergency history (with_pdos k history (with_losses k history m))))

-- the moment of a refused event is that of a frame for nobody, but for the answer
as_nobody : (k : Constants) (history : History) (event : AppView) (code : ℕ) (frame : FrameContent)
    → event_refusal k.description (contents_at k history) event ≡ Some code → address_at k history frame.id ≡ Nobody
    → moment k history (Applied event) ≡ with_answer (Applied event) (answer_with (Some code)) (moment k history (Framed frame))
as_nobody k history event code frame refused nobody =
    ap (λ refusal. served k history (with_app_event k.description event refusal (nothing_of (Applied event) (contents_at k history)))) refused
    ∙ ap (λ (address : Address). with_answer (Applied event) (answer_with (Some code)) (served k history (with_frame k history address frame (nothing_of (Framed frame) (contents_at k history))))) (sym nobody)

-- what stands after the one stands after the other, but for the answer
stands_as : (k : Constants) (d : Description) (entries : Contents) (parts : Parts) (before : Inputs) (event : AppView) (code : ℕ) (frame : FrameContent)
    → moment k (moments k before) (Applied event) ≡ with_answer (Applied event) (answer_with (Some code)) (moment k (moments k before) (Framed frame))
    → NodeStands k d entries parts (Applied event ∷ before) → NodeStands k d entries (record parts { last_app = answer.None }) (Framed frame ∷ before)
stands_as k d entries parts before event code frame same stands =
    let history : History = moments k before in
    record {
      description = stands.description;
      contents = subst (λ (m : Moment). entries ≡ contents_at k (m ∷ history)) same stands.contents;
      state = subst (λ (m : Moment). parts.state ≡ state_at (m ∷ history)) same stands.state;
      channels = subst (λ (m : Moment). BankStands d (channels k) parts.bank (channel_logs (m ∷ history))) same stands.channels;
      addresses = stands.addresses;
      mappings = stands.mappings;
      consumers = subst (λ (m : Moment). ConsumersStand parts.consumers (consumers_log k (m ∷ history))) same stands.consumers;
      emergencies = subst (λ (m : Moment). EmergenciesStand parts.emergencies (emergency_log (m ∷ history))) same stands.emergencies;
      slots = subst (λ (m : Moment). AreSlotsOf d parts.slots (slot_log k (m ∷ history))) same stands.slots;
      producer = subst (λ (m : Moment). ProducerStands parts.producer (producer_log k (m ∷ history))) same stands.producer;
      schedule = subst (λ (m : Moment). IsScheduleAfter d parts.schedule (schedule_log k (m ∷ history))) same stands.schedule;
      app = sym (none_to_frame k before frame);
      seen = subst (λ (m : Moment). parts.last_seen ≡ seen_of m.mark) same stands.seen;
      lost = subst (λ (m : Moment). parts.lost.items ≡ m.lost) same stands.lost;
    }

pub as_for_nobody : (k : Constants) (node : Node) (sent : List FrameContent) (before : Inputs) (event : AppView) (code : ℕ)
    → event_refusal k.description (contents_of k before) event ≡ Some code
    → sent ≡ prescribed k before (Applied event) → Stands k node (Applied event ∷ before) → AsForNobody k node sent before event code
as_for_nobody k node sent before event code refused given stands = record {
  answer = to_event k before event ∙ ap answer_with refused;
  contents = event_refused k before event code refused;
  frames = λ frame nobody. given ∙ ap (λ (m : Moment). frames k m) (as_nobody k (moments k before) event code frame refused nobody);
  stands = λ frame nobody.
      stands_as k (description_of node.device.store) (entries_of node.device.store) node.device.parts before event code frame
      (as_nobody k (moments k before) event code frame refused nobody) stands;
}

-- What one more moment of a device is, service by service, and how each part is carried on by it.
use Rattle.std.proofs.Common.{◌≡◌, Bool, List, ◌∷◌, refl, sym, ap, ◌∙◌, subst}
use Rattle.std.specs.Prelude.{ℕ, ◌||◌, Option}
use Rattle.co_frame.specs.declared.emergency.Emergency.{Emergency}
use Rattle.co_frame.specs.declared.heartbeat.Heartbeat.{Heartbeat}
use Rattle.co_dict.specs.Rows.{Contents, number_at}
use Rattle.co_dict.specs.Stores.{Description}
use Rattle.co_sdo.specs.declared.channels.NumberedChannel.{NumberedChannel}
use Rattle.co_sdo.specs.Banks.{BankStands}
use Rattle.co_pdo.specs.Schedules.{History as Schedule, Timetable, IsScheduleAfter}
use Rattle.co_node_parts.specs.declared.nmt_state.NodeState.{NodeState}
use Rattle.co_node_parts.specs.declared.nmt_state.NodeState.TheVariants.{Stopped}
use Rattle.co_node_parts.specs.declared.nmt_state.StateEvent.{StateEvent}
use Rattle.co_node_parts.specs.declared.nmt_state.Transition.{Transition}
use Rattle.co_node_parts.specs.declared.heartbeat_consumer.HeartbeatConsumer.{HeartbeatConsumer}
use Rattle.co_node_parts.specs.declared.heartbeat_producer.ProducerEvent.{ProducerEvent}
use Rattle.co_node_parts.specs.declared.emergencies.EmergencyEvent.{EmergencyEvent}
use Rattle.co_node_parts.specs.NmtStates.{state_after, enters}
use Rattle.co_node_parts.specs.ConsumerTables.{ConsumersStand}
use Rattle.co_node_parts.specs.EmergencyQueues.{Pending, EmergencyLog, EmergenciesStand, Noted, emergency_due, with_queued, with_sending}
use Rattle.co_node_parts.specs.Producers.{Producer, ProducerStands, is_heartbeat_due}
use Rattle.co_node_parts.specs.RpdoSlots.{SlotContent}
use Rattle.co_node_device.specs.SlotTables.{AreSlotsOf}
use Rattle.co_node_parts.specs.declared.rpdo_slots.SlotEvent.{SlotEvent}
use Rattle.co_node_model.specs.Inputs.{InputView}
use Rattle.co_profile.specs.Keys.{emergency_inhibit_key}
use Rattle.co_node_model.specs.Rpdos.{slot_event, slot_log}
use Rattle.co_node_model.specs.Tpdos.{turn_of, schedule_log, turn_at, due_at, with_turn}
use Rattle.co_node_model.specs.Heartbeats.{consumers_call, life_of, producer_event, consumers_log, producer_log, loss_errors, loss_event}
use Rattle.co_node_model.specs.Emergencies.{emergency_event, may_send, all_raised, emergencies_of, emergency_log, unsent_log}
use Rattle.co_node_model.specs.Nmt.{is_reset, state_event, state_at, state_log, transition_of}
use Rattle.co_node_model.specs.declared.mark.Mark.{Mark}
use Rattle.co_node_model.specs.declared.turn.Turn.{Turn}
use Rattle.co_node_model.specs.Moments.{Constants, Moment, History, channels}
use Rattle.co_node_model.specs.Sdo.{channel_logs, with_drop}
use Rattle.co_node_model.specs.Device.{moment}
use Rattle.co_node_device.specs.Losses.{lost_now}
use Rattle.co_dict_placed.specs.Changes.{with_keys}
use Rattle.co_node_device.specs.SetEntries.{set_by_effects, set_by_rpdos}
use Rattle.co_node_device.specs.Effects.{after_effects, effect_emergencies}
use Rattle.co_node_device.specs.Befores.{logs_received}

-- each service at a moment, by those before it
pub record IsMoment (k : Constants) (h : History) (m : Moment) : Type 0 where
  pub raised_by_loss : m.raised_by_loss ≡ emergencies_of k.description.rows (loss_errors (lost_now m.mark m.received (consumers_log k h))) m.received
  pub watched : m.watched ≡ all_raised k.description.rows (loss_errors (lost_now m.mark m.received (consumers_log k h))) m.received
  pub loss : m.loss ≡ loss_event (lost_now m.mark m.received (consumers_log k h)) m.received
  pub lost : m.lost ≡ lost_now m.mark m.received (consumers_log k h)
  pub raised_by_pdo : m.raised_by_pdo ≡ effect_emergencies k.description m.watched m.mark (transition_of m h) (slot_log k h)
  pub set : set_by_rpdos k m ≡ set_by_effects k.description m.watched m.mark (transition_of m h) (slot_log k h)
  pub contents : m.contents ≡ after_effects k.description m.watched m.mark (transition_of m h) (slot_log k h)
  pub emergency : m.emergency ≡ emergency_due (may_send m.mark (state_at (m ∷ h)) m.contents) (unsent_log m (emergency_log h))
  pub life : m.life ≡ life_of m.mark (state_at (m ∷ h)) (is_heartbeat_due (producer_event m.mark m.contents) (producer_log k h))
  pub due : m.due ≡ due_at k.description (turn_at m h) m.contents (schedule_log k h)

pub moment_is : (k : Constants) (h : History) (input : InputView) → IsMoment k h (moment k h input)
moment_is k h input = record {
  raised_by_loss = refl;
  watched = refl;
  loss = refl;
  lost = refl;
  raised_by_pdo = refl;
  set = refl;
  contents = refl;
  emergency = refl;
  life = refl;
  due = refl;
}

module _ (k : Constants) (h : History) (m : Moment) (is : IsMoment k h m) where
  -- ---- lost heartbeats
  module _ (d : Description) (mark : Mark) (received : Contents) (dk : d ≡ k.description) (em : mark ≡ m.mark) (er : received ≡ m.received) where
    pub watched : (watched : Contents) → watched ≡ all_raised d.rows (loss_errors (lost_now mark received (consumers_log k h))) received → watched ≡ m.watched
    watched w e = e ∙ rw (dk, em, er) (sym is.watched)

    pub loss : (loss : StateEvent) → loss ≡ loss_event (lost_now mark received (consumers_log k h)) received → loss ≡ m.loss
    loss l e = e ∙ rw (em, er) (sym is.loss)

    pub lost : (lost : List ℕ) → lost ≡ lost_now mark received (consumers_log k h) → lost ≡ m.lost
    lost l e = e ∙ rw (em, er) (sym is.lost)

    pub consumers : (entries : List HeartbeatConsumer) → ConsumersStand entries (consumers_call mark received ∷ consumers_log k h) → ConsumersStand entries (consumers_log k (m ∷ h))
    consumers entries s = rw (sym em, sym er) s

    pub lost_queued : (pending : Pending) (log : EmergencyLog) → EmergenciesStand pending (with_queued (emergencies_of d.rows (loss_errors (lost_now mark received (consumers_log k h))) received) log) → EmergenciesStand pending (with_queued m.raised_by_loss log)
    lost_queued pending log s = rw (is.raised_by_loss, sym em, sym er, sym dk) s

  -- ---- NMT state
  module _ (mark : Mark) (em : mark ≡ m.mark) (before : NodeState) (eb : before ≡ state_at h) (event loss : StateEvent) (ev : event ≡ state_event mark) (el : loss ≡ m.loss) where
    pub state : (after : NodeState) → after ≡ state_after (loss ∷ event ∷ state_log h) → after ≡ state_at (m ∷ h)
    state after e = e ∙ rw (ev, em, el) refl

    pub transition : (after : NodeState) → after ≡ state_after (loss ∷ event ∷ state_log h) → record { before = before; after = after } ≡ transition_of m h
    transition after e = rw (state after e, eb) refl

  -- ---- SDO channels
  pub dropped : (d : Description) (bank : List NumberedChannel) (mark : Mark) (t : Transition) → mark ≡ m.mark → t ≡ transition_of m h
      → BankStands d (channels k) bank (with_drop (is_reset mark || enters Stopped t) (logs_received m h)) → BankStands d (channels k) bank (channel_logs (m ∷ h))
  dropped d bank mark t em et s =
      subst (λ (u : Transition). BankStands d (channels k) bank (with_drop (is_reset m.mark || enters Stopped u) (logs_received m h))) et
      (subst (λ (n : Mark). BankStands d (channels k) bank (with_drop (is_reset n || enters Stopped t) (logs_received m h))) em s)

  -- ---- SYNC and RPDOs
  module _ (d : Description) (mark : Mark) (watched : Contents) (t : Transition) (dk : d ≡ k.description) (em : mark ≡ m.mark) (ew : watched ≡ m.watched) (et : t ≡ transition_of m h) where
    pub contents : (contents : Contents) → contents ≡ after_effects d watched mark t (slot_log k h) → contents ≡ m.contents
    contents c e = e ∙ rw (dk, em, ew, et) (sym is.contents)

    pub set : (changes first : List ℕ) → changes ≡ with_keys d (set_by_effects d watched mark t (slot_log k h)) first → changes ≡ with_keys k.description (set_by_rpdos k m) first
    set changes first e = e ∙ rw (dk, em, ew, et) (ap (λ keys. with_keys k.description keys first) (sym is.set))

    pub slots : (content : SlotContent) → AreSlotsOf d content (slot_event d watched mark t ∷ slot_log k h) → AreSlotsOf d content (slot_log k (m ∷ h))
    slots content s =
        subst (λ (e : SlotEvent). AreSlotsOf d content (e ∷ slot_log k h)) noted s
      where
        noted : slot_event d watched mark t ≡ slot_event k.description m.watched m.mark (transition_of m h)
        noted = rw (dk, em, ew, et) refl

    pub pdo_queued : (pending : Pending) (log : EmergencyLog) → EmergenciesStand pending (with_queued (effect_emergencies d watched mark t (slot_log k h)) log) → EmergenciesStand pending (with_queued m.raised_by_pdo log)
    pdo_queued pending log s =
        subst (λ (es : List Emergency). EmergenciesStand pending (with_queued es log)) queued s
      where
        queued : effect_emergencies d watched mark t (slot_log k h) ≡ m.raised_by_pdo
        queued = rw (dk, em, ew, et) (sym is.raised_by_pdo)

  -- ---- what is sent
  module _ (mark : Mark) (contents : Contents) (em : mark ≡ m.mark) (ec : contents ≡ m.contents) where
    pub unsent : (pending : Pending) (event : EmergencyEvent) → event ≡ emergency_event mark
        → EmergenciesStand pending (Noted event ∷ with_queued m.raised_by_pdo (with_queued m.raised_by_loss (with_queued m.raised_by_app (emergency_log h)))) → EmergenciesStand pending (unsent_log m (emergency_log h))
    unsent pending event ev s = rw (sym (ev ∙ ap emergency_event em)) s

    pub emergency : (after : NodeState) (may : Bool) (e : Option Emergency) → after ≡ state_at (m ∷ h) → may ≡ may_send mark after contents → e ≡ emergency_due may (unsent_log m (emergency_log h)) → e ≡ m.emergency
    emergency after may e ea eb ee = ee ∙ rw (eb, ea, em, ec) (sym is.emergency)

    pub emergencies : (pending : Pending) (e : Option Emergency) (inhibit : ℕ) → e ≡ m.emergency → inhibit ≡ number_at contents emergency_inhibit_key
        → EmergenciesStand pending (with_sending e inhibit (unsent_log m (emergency_log h))) → EmergenciesStand pending (emergency_log (m ∷ h))
    emergencies pending e inhibit ee ei s = rw (sym ee, sym ec, sym ei) s

    pub life : (after : NodeState) (event : ProducerEvent) (due : Bool) (l : Option Heartbeat) → after ≡ state_at (m ∷ h) → event ≡ producer_event mark contents → due ≡ is_heartbeat_due event (producer_log k h) → l ≡ life_of mark after due → l ≡ m.life
    life after event due l ea ee ed el = el ∙ rw (ed, ee, ea, em, ec) (sym is.life)

    pub producer : (p : Producer) (event : ProducerEvent) → event ≡ producer_event mark contents → ProducerStands p (event ∷ producer_log k h) → ProducerStands p (producer_log k (m ∷ h))
    producer p event e s = rw (sym em, sym ec, sym e) s

    module _ (t : Transition) (turn : Turn) (et : t ≡ transition_of m h) (ev : turn ≡ turn_of mark t) where
      pub turned : turn ≡ turn_at m h
      turned = ev ∙ rw (em, et) refl

      pub due : (d : Description) (numbers : List ℕ) → d ≡ k.description → numbers ≡ due_at d turn contents (schedule_log k h) → numbers ≡ m.due
      due d numbers dk e = e ∙ rw (dk, turned, ec) (sym is.due)

      pub schedule : (d : Description) (table : Timetable) (numbers : List ℕ) → d ≡ k.description → numbers ≡ m.due → IsScheduleAfter d table (with_turn d turn contents numbers (schedule_log k h)) → IsScheduleAfter d table (schedule_log k (m ∷ h))
      schedule d table numbers dk en s = subst (λ (log : Schedule). IsScheduleAfter d table log) logged s
        where
          logged : with_turn d turn contents numbers (schedule_log k h) ≡ schedule_log k (m ∷ h)
          logged = rw (dk, turned, ec, en) refl

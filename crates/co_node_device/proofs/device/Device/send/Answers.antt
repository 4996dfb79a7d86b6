use Rattle.std.proofs.Common.{◌≡◌, true, List, ◌∷◌, ◌++◌, ◌+◌, ◌≤◌, length, refl, sym, ap, ◌∙◌, subst}
use Rattle.std.specs.Prelude.{map}
use Rattle.co_frame.specs.FrameContent.{FrameContent}
use Rattle.co_dict.specs.Stores.{Description}
use Rattle.co_pdo.specs.Schedules.{AllCurrent, IsScheduleAfter}
use Rattle.co_node_parts.specs.declared.nmt_state.Transition.{Transition}
use Rattle.co_node_parts.specs.EmergencyQueues.{EmergenciesStand}
use Rattle.co_node_parts.specs.Producers.{ProducerStands}
use Rattle.co_node_model.specs.Inputs.{Inputs, InputView}
use Rattle.co_node_model.specs.Moments.{Constants, Moment, History}
use Rattle.co_node_model.specs.Emergencies.{emergency_frames, emergency_log, unsent_log}
use Rattle.co_node_model.specs.Heartbeats.{life_frames, producer_log}
use Rattle.co_node_model.specs.Tpdos.{schedule_log, tpdo_frame, turn_at}
use Rattle.co_node_model.specs.Nmt.{state_at}
use Rattle.co_node_model.specs.Device.{moment, moments}
use Rattle.co_node_model.specs.Marks.{marked_time_out}
use Rattle.co_node_laws.specs.Calls.{is_asked}
use Rattle.co_node_device.specs.Phases.{with_sent}
use Rattle.co_node_device.specs.Standing.{HasTakenEffect}
use Rattle.co_node_device.proofs.Sent.{tpdos_fit}
use Rattle.co_node_device.proofs.Steps as steps
use Rattle.co_node_device.proofs.Steps.{IsMoment, moment_is}
use Rattle.co_node_device.proofs.device.Device.send.Given as given
use Rattle.co_node_device.proofs.device.Device.send.Goals as goal
use Rattle.co_node_device.proofs.device.Device.send.Goals.{After-schedule_ready}

module _ (g : given.Over) (c : After-schedule_ready g) (k : Constants) (inputs : Inputs) (input : InputView) (t : HasTakenEffect k c.args.self.now inputs input c.args.mark.now c.args.transition) where
  abbrev h : History
  h = moments k inputs

  abbrev m : Moment
  m = moment k h input

  is : IsMoment k h m
  is = moment_is k h input

  after : c.args.transition.after ≡ state_at (m ∷ h)
  after = ap (λ (t : Transition). t.after) t.transition

  unsent : EmergenciesStand c.note.new.self (unsent_log m (emergency_log h))
  unsent = steps.unsent k h m is _ _ t.mark t.contents _ _ c.emergency_event.ensures (c.note.ensures _ t.emergencies)

  emergency : c.take_emergency-emergency.result ≡ m.emergency
  emergency = steps.emergency k h m is _ _ t.mark t.contents _ _ _ after refl (c.take_emergency-emergency.ensures.due _ unsent)

  emergencies : EmergenciesStand c.take_emergency-emergency.new.emergencies (emergency_log (m ∷ h))
  emergencies = steps.emergencies k h m is _ _ t.mark t.contents _ _ _ emergency refl (c.take_emergency-emergency.ensures.stands _ unsent)

  life : c.life_of-life.result ≡ m.life
  life = steps.life k h m is _ _ t.mark t.contents _ _ _ _ after c.producer_event.ensures (c.note-is_due.ensures.due (producer_log k h) t.producer) c.life_of-life.ensures

  producer : ProducerStands c.note-is_due.new.self (producer_log k (m ∷ h))
  producer = steps.producer k h m is _ _ t.mark t.contents _ _ c.producer_event.ensures (c.note-is_due.ensures.stands (producer_log k h) t.producer)

  turn : c.turn_of-turn.result ≡ turn_at m h
  turn = steps.turned k h m is _ _ t.mark t.contents _ _ t.transition c.turn_of-turn.ensures.turn

  current : is_asked c.turn_of-turn.result ≡ true → AllCurrent (g.S.ObjectStore.contents c.args.self.now.store) (schedule_log k h)
  current asked = subst (λ contents. AllCurrent contents (schedule_log k h)) (sym t.contents) (c.schedule_ready.ensures k inputs input (ap is_asked (sym turn) ∙ asked))

  due : c.take_turn.new.sent.items ≡ m.due
  due = steps.due k h m is _ _ t.mark t.contents _ _ t.transition c.turn_of-turn.ensures.turn _ _ t.description (c.take_turn.ensures.due (schedule_log k h) t.schedule current)

  schedule : IsScheduleAfter (g.S.ObjectStore.description c.args.self.now.store) c.take_turn.new.schedule (schedule_log k (m ∷ h))
  schedule = steps.schedule k h m is _ _ t.mark t.contents _ _ t.transition c.turn_of-turn.ensures.turn _ _ _ t.description due (c.take_turn.ensures.after (schedule_log k h) t.schedule current)

  -- the frames
  emergency_same : emergency_frames (g.S.ObjectStore.contents c.args.self.now.store) c.take_emergency-emergency.result ≡ emergency_frames m.contents m.emergency
  emergency_same = ap (λ contents. emergency_frames contents c.take_emergency-emergency.result) t.contents ∙ ap (emergency_frames m.contents) emergency

  life_same : life_frames (g.S.ObjectStore.description c.args.self.now.store).node c.life_of-life.result ≡ life_frames k.description.node m.life
  life_same = ap (λ (d : Description). life_frames d.node c.life_of-life.result) t.description ∙ ap (life_frames k.description.node) life

  tpdos_same : map (tpdo_frame (g.S.ObjectStore.description c.args.self.now.store) (g.S.ObjectStore.contents c.args.self.now.store)) c.deref.result.now ≡ map (tpdo_frame k.description m.contents) m.due
  tpdos_same = ap (λ d. map (tpdo_frame d (g.S.ObjectStore.contents c.args.self.now.store)) c.deref.result.now) t.description ∙ ap (λ contents. map (tpdo_frame k.description contents) c.deref.result.now) t.contents ∙ ap (map (tpdo_frame k.description m.contents)) (c.deref.ensures.0 ∙ due)

  sent : c.send_tpdos.new.outbox.items ≡ with_sent k m c.args.outbox.now.items
  sent =
      c.send_tpdos.ensures (schedule_log k (m ∷ h)) schedule t.mappings.tpdos
      ∙ ap (λ (fs : List FrameContent). c.send_life.new.outbox.items ++ fs) tpdos_same
      ∙ ap (λ (o : List FrameContent). o ++ map (tpdo_frame k.description m.contents) m.due)
      (c.send_life.ensures.frames
      ∙ ap (λ (fs : List FrameContent). c.send_emergency.new.outbox.items ++ fs) life_same
      ∙ ap (λ (o : List FrameContent). o ++ life_frames k.description.node m.life)
      (c.send_emergency.ensures.frames ∙ ap (λ (fs : List FrameContent). c.args.outbox.now.items ++ fs) emergency_same))

pub returns-clause-frames : goal.returns-clause-frames
returns-clause-frames g c = λ k inputs input t. sent g c k inputs input t

pub returns-clause-stands : goal.returns-clause-stands
returns-clause-stands g c = λ k inputs input t. record {
  description = t.description;
  contents = t.contents;
  state = t.state;
  channels = t.channels;
  addresses = t.addresses;
  mappings = t.mappings;
  consumers = t.consumers;
  emergencies = emergencies g c k inputs input t;
  slots = t.slots;
  producer = producer g c k inputs input t;
  schedule = schedule g c k inputs input t;
  app = t.app;
  seen = t.seen;
  lost = t.lost;
}

pub send_tpdos-requires-clause-room : goal.send_tpdos-requires-clause-room
send_tpdos-requires-clause-room g c =
    let most : length c.send_life.new.outbox.items + length c.take_turn.new.sent.items ≤ 514 =
    tpdos_fit (is_asked c.turn_of-turn.result) _ (marked_time_out c.args.mark.now) (length c.args.outbox.now.items) _ _ c.take_turn.new.sent.items c.take_emergency-emergency.result
    c.requires.room c.requires.alone c.take_emergency-emergency.ensures.alone c.send_emergency.ensures.few c.send_life.ensures.few
    c.turn_of-turn.ensures.asked c.take_turn.ensures.idle (subst (λ ns. length ns ≤ 512) c.deref.ensures.0 c.deref.ensures.1) in
    subst (λ ns. length c.send_life.new.outbox.items + length ns ≤ 514) (sym c.deref.ensures.0) most

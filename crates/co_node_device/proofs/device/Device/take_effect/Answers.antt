use Rattle.std.proofs.Common.{◌≡◌, false, List, ◌∷◌, sym, ap, ◌∙◌, subst}
use Rattle.co_sdo.specs.Banks.{BankStands}
use Rattle.co_node_parts.specs.ConsumerTables.{ConsumersStand}
use Rattle.co_node_device.specs.SlotTables.{AreSlotsOf}
use Rattle.co_node_device.proofs.Slots.{each_there}
use Rattle.co_node_parts.specs.declared.nmt_state.Transition.{Transition}
use Rattle.co_node_parts.specs.EmergencyQueues.{EmergenciesStand, with_queued}
use Rattle.co_node_model.specs.Inputs.{Inputs, InputView}
use Rattle.co_node_model.specs.Addresses.{may_change_addresses, AgreeOnAddresses}
use Rattle.co_profile.specs.Keys.{sync_key}
use Rattle.co_node_device.specs.AddressTables.{IsTableOf}
use Rattle.co_node_model.specs.Mappings.{may_change_mappings, AgreeOnMappings}
use Rattle.co_node_device.specs.MappingTables.{AreMappings, IsMappingTable}
use Rattle.co_node_device.specs.Befores.{logs_received}
use Rattle.co_node_model.specs.Moments.{Constants, Moment, History, channels}
use Rattle.co_node_model.specs.Sdo.{with_drop, channel_logs}
use Rattle.co_node_model.specs.Emergencies.{emergency_log}
use Rattle.co_node_model.specs.Heartbeats.{consumers_log}
use Rattle.co_node_model.specs.Rpdos.{slot_log}
use Rattle.co_node_model.specs.Tpdos.{schedule_log}
use Rattle.co_node_model.specs.Nmt.{state_at, state_log, transition_of}
use Rattle.co_node_model.specs.Device.{contents_of, moment, moments}
use Rattle.co_pdo.specs.Schedules.{IsScheduleAfter}
use Rattle.co_dict.specs.declared.side.Side.{Side}
use Rattle.co_dict.specs.declared.side.Side.TheVariants.{Rpdo, Tpdo}
use Rattle.co_pdo_compiled.specs.declared.part.Part.{Part}
use Rattle.co_dict.specs.Rows.{Contents}
use Rattle.co_dict.specs.Stores.{Description}
use Rattle.co_node_device.specs.Standing.{HasReceived}
use Rattle.co_node_device.proofs.Steps as steps
use Rattle.co_node_device.proofs.Steps.{IsMoment, moment_is}
use Rattle.co_node_device.proofs.device.Device.take_effect.Given as given
use Rattle.co_node_device.proofs.device.Device.take_effect.Goals as goal
use Rattle.co_node_device.proofs.device.Device.take_effect.Goals.{After-mappings_stay}

module _ (g : given.Over) (c : After-mappings_stay g) (k : Constants) (inputs : Inputs) (input : InputView) (r : HasReceived k c.args.self.now inputs input c.args.mark.now) where
  abbrev h : History
  h = moments k inputs

  abbrev m : Moment
  m = moment k h input

  is : IsMoment k h m
  is = moment_is k h input

  state_before : c.get-before.result ≡ state_at h
  state_before = c.get-before.ensures ∙ r.state

  d2 : g.S.ObjectStore.description c.watch-loss.new.store ≡ k.description
  d2 = c.watch-loss.ensures.description ∙ r.description

  d3 : g.S.ObjectStore.description c.take_pdos.new.store ≡ k.description
  d3 = c.take_pdos.ensures.description ∙ d2

  watched : g.S.ObjectStore.contents c.watch-loss.new.store ≡ m.watched
  watched = steps.watched k h m is _ _ _ r.description r.mark r.contents _ (c.watch-loss.ensures.contents (consumers_log k h) r.consumers)

  loss : c.watch-loss.result ≡ m.loss
  loss = steps.loss k h m is _ _ _ r.description r.mark r.contents _ (c.watch-loss.ensures.loss (consumers_log k h) r.consumers)

  lost : c.watch-loss.new.lost.items ≡ m.lost
  lost = steps.lost k h m is _ _ _ r.description r.mark r.contents _ (c.watch-loss.ensures.lost (consumers_log k h) r.consumers)

  state_after_all : c.note-changed.new.self ≡ state_at (m ∷ h)
  state_after_all = steps.state k h m is _ r.mark _ state_before _ _ c.state_event.ensures loss _ (c.note-changed.ensures.stands (c.state_event.result ∷ state_log h) (c.note.ensures.stands (state_log h) r.state))

  transition : record { before = c.get-before.result; after = c.note-changed.result.after } ≡ transition_of m h
  transition = steps.transition k h m is _ r.mark _ state_before _ _ c.state_event.ensures loss _ (ap (λ (t : Transition). t.after) (c.note-changed.ensures.transition (c.state_event.result ∷ state_log h) (c.note.ensures.stands (state_log h) r.state)))

  -- the mappings, as they are from the lost heartbeats on
  same_mappings : may_change_mappings c.args.mark.now ≡ false → AgreeOnMappings (contents_of k inputs) (g.S.ObjectStore.contents c.watch-loss.new.store)
  same_mappings off = λ key there.
      c.mappings_kept.ensures.before k inputs input (ap may_change_mappings (sym r.mark) ∙ off) key there
      ∙ ap (λ (entries : Contents). entries key) (sym watched)

  mappings_watched : AreMappings (g.S.ObjectStore.description c.watch-loss.new.store) (g.S.ObjectStore.contents c.watch-loss.new.store) c.note-2.new.self
  mappings_watched = c.note-2.ensures.mappings (contents_of k inputs)
      (subst (λ (d : Description). AreMappings d (contents_of k inputs) c.args.self.now.parts.mappings)
      (sym c.watch-loss.ensures.description) r.mappings) same_mappings

  slots_watched : AreSlotsOf (g.S.ObjectStore.description c.watch-loss.new.store) c.args.self.now.parts.slots (slot_log k h)
  slots_watched = subst (λ (d : Description). AreSlotsOf d c.args.self.now.parts.slots (slot_log k h)) (sym c.watch-loss.ensures.description) r.slots

  contents : g.S.ObjectStore.contents c.take_pdos.new.store ≡ m.contents
  contents = steps.contents k h m is _ _ _ _ d2 r.mark watched transition _ (c.take_pdos.ensures.contents (slot_log k h) mappings_watched.rpdos slots_watched)

  -- the parts
  consumers : ConsumersStand c.watch-loss.new.consumers (consumers_log k (m ∷ h))
  consumers = steps.consumers k h m is _ _ _ r.description r.mark r.contents _ (c.watch-loss.ensures.consumers (consumers_log k h) r.consumers)

  channels_stand : BankStands (g.S.ObjectStore.description c.args.self.now.store) (channels k) c.drop_if.new.bank (channel_logs (m ∷ h))
  channels_stand = steps.dropped k h m is _ _ _ _ r.mark transition (subst (λ b. BankStands (g.S.ObjectStore.description c.args.self.now.store) (channels k) c.drop_if.new.bank (with_drop b (logs_received m h))) c.drops.ensures (c.drop_if.ensures.stands _ _ _ r.channels))

  same_addresses : may_change_addresses c.args.mark.now ≡ false → AgreeOnAddresses (contents_of k inputs) (g.S.ObjectStore.contents c.take_pdos.new.store)
  same_addresses off = record {
    sync = c.addresses_kept.ensures.sync k inputs input (ap may_change_addresses (sym r.mark) ∙ off)
        ∙ ap (λ (entries : Contents). entries sync_key) (sym contents);
    rpdos = λ key low high.
        c.addresses_kept.ensures.rpdos k inputs input (ap may_change_addresses (sym r.mark) ∙ off) key low high
        ∙ ap (λ (entries : Contents). entries key) (sym contents);
  }

  addresses : IsTableOf (g.S.ObjectStore.contents c.take_pdos.new.store) c.note-3.new.self
  addresses = c.note-3.ensures (contents_of k inputs) r.addresses same_addresses

  kept_mappings : AgreeOnMappings (g.S.ObjectStore.contents c.watch-loss.new.store) (g.S.ObjectStore.contents c.take_pdos.new.store)
  kept_mappings = λ key there.
      ap (λ (entries : Contents). entries key) watched
      ∙ c.mappings_kept.ensures.after k inputs input key there
      ∙ ap (λ (entries : Contents). entries key) (sym contents)

  kept_table : (side : Side) (table : List (List Part)) → IsMappingTable side (g.S.ObjectStore.description c.watch-loss.new.store) (g.S.ObjectStore.contents c.watch-loss.new.store) table
      → IsMappingTable side (g.S.ObjectStore.description c.take_pdos.new.store) (g.S.ObjectStore.contents c.take_pdos.new.store) table
  kept_table side table t = c.mappings_stay.ensures side (g.S.ObjectStore.description c.take_pdos.new.store) (g.S.ObjectStore.contents c.watch-loss.new.store) (g.S.ObjectStore.contents c.take_pdos.new.store) table kept_mappings
      (subst (λ (d : Description). IsMappingTable side d (g.S.ObjectStore.contents c.watch-loss.new.store) table) (sym c.take_pdos.ensures.description) t)

  mappings : AreMappings (g.S.ObjectStore.description c.take_pdos.new.store) (g.S.ObjectStore.contents c.take_pdos.new.store) c.note-2.new.self
  mappings = record { rpdos = kept_table Rpdo _ mappings_watched.rpdos; tpdos = kept_table Tpdo _ mappings_watched.tpdos }

  slots : AreSlotsOf (g.S.ObjectStore.description c.take_pdos.new.store) c.take_pdos.new.slots (slot_log k (m ∷ h))
  slots =
      subst (λ (d : Description). AreSlotsOf d c.take_pdos.new.slots (slot_log k (m ∷ h))) (sym c.take_pdos.ensures.description)
      (steps.slots k h m is _ _ _ _ d2 r.mark watched transition _ (c.take_pdos.ensures.slots (slot_log k h) mappings_watched.rpdos slots_watched
      (each_there k inputs input c.args.mark.now (g.S.ObjectStore.description c.watch-loss.new.store) _ r.mark watched (λ n on. c.active_is_there.ensures Rpdo n on))))

  queued_by_loss : EmergenciesStand c.watch-loss.new.emergencies (with_queued m.raised_by_loss (with_queued m.raised_by_app (emergency_log h)))
  queued_by_loss = steps.lost_queued k h m is _ _ _ r.description r.mark r.contents _ _ (c.watch-loss.ensures.emergencies (consumers_log k h) _ r.consumers r.emergencies)

  queued_by_pdo : EmergenciesStand c.take_pdos.new.emergencies (with_queued m.raised_by_pdo (with_queued m.raised_by_loss (with_queued m.raised_by_app (emergency_log h))))
  queued_by_pdo = steps.pdo_queued k h m is _ _ _ _ d2 r.mark watched transition _ _ (c.take_pdos.ensures.emergencies (slot_log k h) _ mappings_watched.rpdos slots_watched queued_by_loss)

  same : g.S.ObjectStore.description c.args.self.now.store ≡ g.S.ObjectStore.description c.take_pdos.new.store
  same = r.description ∙ sym d3

pub returns-clause-changes : goal.returns-clause-changes
returns-clause-changes g c = λ k inputs input r.
    steps.set k (h g c k inputs input r) (m g c k inputs input r) (is g c k inputs input r) _ _ _ _ (d2 g c k inputs input r) r.mark (watched g c k inputs input r) (transition g c k inputs input r) _ _
    (c.take_pdos.ensures.changes (slot_log k (h g c k inputs input r)) (mappings_watched g c k inputs input r).rpdos (slots_watched g c k inputs input r))

pub returns-clause-effect : goal.returns-clause-effect
returns-clause-effect g c = λ k inputs input r. record {
  description = d3 g c k inputs input r;
  contents = contents g c k inputs input r;
  mark = r.mark;
  transition = transition g c k inputs input r;
  state = state_after_all g c k inputs input r;
  channels = subst (λ d. BankStands d (channels k) c.drop_if.new.bank (channel_logs (m g c k inputs input r ∷ h g c k inputs input r))) (same g c k inputs input r) (channels_stand g c k inputs input r);
  addresses = addresses g c k inputs input r;
  mappings = mappings g c k inputs input r;
  consumers = consumers g c k inputs input r;
  emergencies = queued_by_pdo g c k inputs input r;
  slots = slots g c k inputs input r;
  producer = r.producer;
  schedule = subst (λ d. IsScheduleAfter d c.args.self.now.parts.schedule (schedule_log k (h g c k inputs input r))) (same g c k inputs input r) r.schedule;
  app = r.app;
  seen = r.seen;
  lost = lost g c k inputs input r;
}

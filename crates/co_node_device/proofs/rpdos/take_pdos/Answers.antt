use Rattle.std.proofs.Common.{◌≡◌, ◌∷◌, ◌∙◌, [], length, sym, ap, subst}
use Rattle.std.specs.Prelude.{if◌then◌else◌, Option}
use Rattle.std.specs.List.{cons_option}
use Rattle.co_dict.specs.declared.side.Side.TheVariants.{Rpdo}
use Rattle.co_dict.specs.Rows.{Contents}
use Rattle.co_dict.specs.Stores.{Description}
use Rattle.co_node_parts.specs.declared.rpdo_slots.KeptFrame.{KeptFrame}
use Rattle.co_node_parts.specs.declared.rpdo_slots.SlotEvent.{SlotEvent}
use Rattle.co_node_parts.specs.RpdoSlots.{SlotLog, SlotsStand, taken_at}
use Rattle.co_node_device.specs.SlotTables.{AreSlotsOf}
use Rattle.co_node_parts.specs.EmergencyQueues.{EmergenciesStand}
use Rattle.co_node_model.specs.Marks.{marked_rpdo}
use Rattle.co_node_model.specs.Rpdos.{IsMappedLength, IsTypeOf, immediate, slot_event}
use Rattle.co_node_device.specs.MappingTables.{IsMappingTable}
use Rattle.co_node_device.specs.Effects.{after_lengths, length_errors_of}
use Rattle.co_node_device.proofs.Slots.{slots_after, taken_of_all}
use Rattle.co_node_device.proofs.Taken.{AreEffects, effects_are, effects_noted, effects_queued}
use Rattle.co_node_device.proofs.rpdos.take_pdos.Given as given
use Rattle.co_node_device.proofs.rpdos.take_pdos.Goals as goal

module _ (g : given.Over) (c : goal.After-mappings_stay g)
    (table : IsMappingTable Rpdo (g.S.ObjectStore.description c.args.store.now) (g.S.ObjectStore.contents c.args.store.now) c.args.mappings.now) where
  -- the frame of an RPDO, as the mark has it
  came : c.rpdo-rpdo.result ≡ marked_rpdo c.args.mark.now
  came = c.rpdo-rpdo.ensures

  mapped_came : IsMappedLength (g.S.ObjectStore.description c.args.store.now) (g.S.ObjectStore.contents c.args.store.now) c.rpdo-rpdo.result c.mapped_length-mapped.result
  mapped_came = c.mapped_length-mapped.ensures (g.S.ObjectStore.description c.args.store.now) (g.S.ObjectStore.contents c.args.store.now) table

  mapped : IsMappedLength (g.S.ObjectStore.description c.args.store.now) (g.S.ObjectStore.contents c.args.store.now) (marked_rpdo c.args.mark.now) c.mapped_length-mapped.result
  mapped = subst (λ (rpdo : Option KeptFrame). IsMappedLength (g.S.ObjectStore.description c.args.store.now) (g.S.ObjectStore.contents c.args.store.now) rpdo c.mapped_length-mapped.result) came mapped_came

  kind : IsTypeOf (g.S.ObjectStore.contents c.args.store.now) (marked_rpdo c.args.mark.now) c.type_of-kind.result
  kind = subst (λ (rpdo : Option KeptFrame). IsTypeOf (g.S.ObjectStore.contents c.args.store.now) rpdo c.type_of-kind.result) came c.type_of-kind.ensures

  event : c.slot_event.result ≡ slot_event (g.S.ObjectStore.description c.args.store.now) (g.S.ObjectStore.contents c.args.store.now) c.args.mark.now c.args.transition
  event = c.slot_event.ensures (g.S.ObjectStore.description c.args.store.now) (g.S.ObjectStore.contents c.args.store.now) kind mapped

  lengths : g.S.ObjectStore.contents c.raise_lengths.new.store ≡ after_lengths (g.S.ObjectStore.description c.args.store.now) (g.S.ObjectStore.contents c.args.store.now) c.args.mark.now
  lengths = c.raise_lengths.ensures.contents mapped

  -- errors of length change no mapping
  waiting : IsMappingTable Rpdo (g.S.ObjectStore.description c.raise_lengths.new.store) (g.S.ObjectStore.contents c.raise_lengths.new.store) c.args.mappings.now
  waiting =
      subst (λ (d : Description). IsMappingTable Rpdo d (g.S.ObjectStore.contents c.raise_lengths.new.store) c.args.mappings.now) (sym c.raise_lengths.ensures.description)
      (subst (λ (e : Contents). IsMappingTable Rpdo (g.S.ObjectStore.description c.args.store.now) e c.args.mappings.now) (sym lengths)
      (c.mappings_stay.ensures Rpdo (g.S.ObjectStore.description c.args.store.now) (g.S.ObjectStore.contents c.args.store.now) _ c.args.mappings.now
      (c.settings_kept.ensures.mappings _ _ (c.settings_kept.ensures.raised (g.S.ObjectStore.description c.args.store.now).rows
      (length_errors_of (g.S.ObjectStore.description c.args.store.now) (g.S.ObjectStore.contents c.args.store.now) c.args.mark.now) (g.S.ObjectStore.contents c.args.store.now))) table))

  -- nor do the data of those that waited
  at_once : IsMappingTable Rpdo (g.S.ObjectStore.description c.take_all_data.new.store) (g.S.ObjectStore.contents c.take_all_data.new.store) c.args.mappings.now
  at_once = subst (λ (d : Description). IsMappingTable Rpdo d (g.S.ObjectStore.contents c.take_all_data.new.store) c.args.mappings.now)
      (sym c.take_all_data.ensures.description) (c.take_all_data.ensures.table waiting)

module _ (g : given.Over) (c : goal.After-mappings_stay g)
    (table : IsMappingTable Rpdo (g.S.ObjectStore.description c.args.store.now) (g.S.ObjectStore.contents c.args.store.now) c.args.mappings.now)
    (log : SlotLog) (h : AreSlotsOf (g.S.ObjectStore.description c.args.store.now) c.args.slots.now log) where
  -- what is taken is what all 512 slots would give
  from_slots : c.taken.result.now ≡ taken_at 512 c.slot_event.result log
  from_slots = c.taken.ensures ∙ c.note.ensures.taken (length c.args.slots.now.slots) log h.stand ∙ taken_of_all _ c.args.slots.now log c.slot_event.result h

  gave : AreEffects (g.S.ObjectStore.description c.args.store.now) (g.S.ObjectStore.description c.raise_lengths.new.store) (g.S.ObjectStore.description c.take_all_data.new.store)
      (g.S.ObjectStore.contents c.args.store.now) (g.S.ObjectStore.contents c.raise_lengths.new.store) (g.S.ObjectStore.contents c.take_all_data.new.store) (g.S.ObjectStore.contents c.take_at_once.new.store)
      c.args.mark.now c.args.transition log c.taken.result.now (if c.is_immediate-at_once.result then cons_option c.rpdo-rpdo.result [] else [])
  gave = record {
    lengths = lengths g c table;
    same = c.raise_lengths.ensures.description;
    taken = from_slots ∙ ap (λ (e : SlotEvent). taken_at 512 e log) (event g c table);
    data_taken = c.take_all_data.ensures.contents (waiting g c table);
    same_then = c.take_all_data.ensures.description ∙ c.raise_lengths.ensures.description;
    at_once = c.is_immediate-at_once.ensures (g.S.ObjectStore.description c.args.store.now) (g.S.ObjectStore.contents c.args.store.now) c.type_of-kind.ensures (mapped_came g c table)
        ∙ ap (immediate (g.S.ObjectStore.description c.args.store.now) (g.S.ObjectStore.contents c.args.store.now)) (came g c table);
    data_at_once = c.take_at_once.ensures.contents (at_once g c table);
  }

pub returns-clause-slots : goal.returns-clause-slots
returns-clause-slots g c = λ log table h there.
    slots_after (g.S.ObjectStore.description c.args.store.now) (g.S.ObjectStore.contents c.args.store.now) c.args.slots.now c.note.new.self log c.args.mark.now c.args.transition h there
    (subst (λ (e : SlotEvent). SlotsStand (length c.args.slots.now.slots) c.note.new.self (e ∷ log)) (event g c table) (c.note.ensures.stands (length c.args.slots.now.slots) log h.stand))

pub returns-clause-contents : goal.returns-clause-contents
returns-clause-contents g c = λ log table h. effects_are _ _ _ _ _ _ _ _ _ _ _ _ (gave g c table log h)

pub returns-clause-changes : goal.returns-clause-changes
returns-clause-changes g c = λ log table h.
    effects_noted _ _ _ _ _ _ _ _ _ _ _ _ (gave g c table log h) c.args.changes.now _ _
    (c.take_all_data.ensures.changes (waiting g c table)) (c.take_at_once.ensures.changes (at_once g c table))

pub returns-clause-emergencies : goal.returns-clause-emergencies
returns-clause-emergencies g c = λ log queued table h q.
    subst (EmergenciesStand c.take_at_once.new.emergencies) (effects_queued _ _ _ _ _ _ _ _ _ _ _ _ (gave g c table log h) queued)
    (c.take_at_once.ensures.emergencies _ (at_once g c table) (c.take_all_data.ensures.emergencies _ (waiting g c table) (c.raise_lengths.ensures.emergencies queued (mapped g c table) q)))

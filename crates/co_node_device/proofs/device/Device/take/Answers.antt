use Rattle.std.proofs.Common.{◌≡◌, ◌≤◌, ◌++◌, ◌∷◌, length, sym, ap, ◌∙◌, subst}
use Rattle.co_sdo.specs.Banks.{BankStands}
use Rattle.co_sdo.specs.Events.{frames_at}
use Rattle.co_pdo.specs.Schedules.{IsScheduleAfter}
use Rattle.co_dict.specs.Rows.{Contents}
use Rattle.co_dict.specs.Stores.{Description, IsDictionary}
use Rattle.co_node_model.specs.Inputs.{Inputs}
use Rattle.co_node_model.specs.Moments.{Constants, Moment, History, channels}
use Rattle.co_node_model.specs.Emergencies.{emergency_log}
use Rattle.co_node_model.specs.Rpdos.{slot_log}
use Rattle.co_node_model.specs.Tpdos.{schedule_log}
use Rattle.co_node_model.specs.Device.{contents_of, frame_bound, frames, moment, moments}
use Rattle.co_node_laws.specs.Lengths.{HasParts}
use Rattle.co_node_device.specs.AddressTables.{IsTableOf}
use Rattle.co_node_device.specs.MappingTables.{AreMappings}
use Rattle.co_node_device.specs.SlotTables.{AreSlotsOf}
use Rattle.co_node_device.specs.Given.{given_view}
use Rattle.co_node_device.specs.Befores.{IsAddressed, IsBefore, logs_received}
use Rattle.co_node_device.specs.Lasts.{seen_of}
use Rattle.co_node_device.specs.Phases.{with_sent}
use Rattle.co_dict_placed.specs.Changes.{with_keys}
use Rattle.co_node_model.specs.declared.mark.Mark.{Mark}
use Rattle.co_node_device.specs.SetEntries.{last_set, set_by_request, set_by_rpdos}
use Rattle.co_node_device.proofs.Taken.{noted_all}
use Rattle.co_node_device.specs.Standing.{HasTakenEffect, Stands}
use Rattle.co_node_device.proofs.device.Device.take.Given as given
use Rattle.co_node_device.proofs.device.Device.take.Goals as goal
use Rattle.co_node_device.proofs.device.Device.take.Goals.{After-self-4-1}

each_of : {A P Q : Type 0} → (A → P) → (A → Q) → A → P × Q
each_of f g a = (f a, g a)

module _ (g : given.Over) (c : After-self-4-1 g) (k : Constants) (inputs : Inputs) (ns : Stands k c.args.self.now inputs)
    (addressed : IsAddressed k (moments k inputs) c.args.given c.args.address c.args.frame.now) where
  abbrev h : History
  h = moments k inputs

  abbrev m : Moment
  m = moment k h (given_view c.args.given c.args.frame.now)

  before : IsBefore k h (g.S.ObjectStore.description c.args.self.now.store) (g.S.ObjectStore.contents c.args.self.now.store) c.args.self.now.parts.bank c.get-before.result
  before = record { description = ns.description; contents = ns.contents; channels = ns.channels; state = c.get-before.ensures ∙ ns.state }

  same : g.S.ObjectStore.description c.args.self.now.store ≡ g.S.ObjectStore.description c.receive-received.new.store
  same = sym c.receive-received.ensures.description

  mark : c.receive-received.result.mark ≡ m.mark
  mark = c.receive-received.ensures.mark k h before addressed

  -- the effects, and what RPDOs set
  both : HasTakenEffect k c.take_effect-transition.new.self inputs (given_view c.args.given c.args.frame.now) c.receive-received.result.mark c.take_effect-transition.result
      × (c.take_effect-transition.new.changes ≡ with_keys k.description (set_by_rpdos k m) c.note_download.new.changes)
  both = each_of (c.take_effect-transition.ensures.effect k inputs (given_view c.args.given c.args.frame.now))
      (c.take_effect-transition.ensures.changes k inputs (given_view c.args.given c.args.frame.now)) (record {
        description = sym same ∙ ns.description;
        contents = c.receive-received.ensures.contents k h before addressed;
        mark = c.receive-received.ensures.mark k h before addressed;
        state = ns.state;
        channels = subst (λ (d : Description). BankStands d (channels k) c.receive-received.new.bank (logs_received m h)) same (c.receive-received.ensures.channels k h before addressed);
        addresses = subst (λ (e : Contents). IsTableOf e c.args.self.now.parts.addresses) ns.contents ns.addresses;
        mappings = subst (λ (d : Description). AreMappings d (contents_of k inputs) c.args.self.now.parts.mappings) same
            (subst (λ (e : Contents). AreMappings (g.S.ObjectStore.description c.args.self.now.store) e c.args.self.now.parts.mappings) ns.contents ns.mappings);
        consumers = ns.consumers;
        emergencies = c.receive-received.ensures.emergencies k h (emergency_log h) before addressed ns.emergencies;
        slots = subst (λ (d : Description). AreSlotsOf d c.args.self.now.parts.slots (slot_log k h)) same ns.slots;
        producer = ns.producer;
        schedule = subst (λ (d : Description). IsScheduleAfter d c.args.self.now.parts.schedule (schedule_log k h)) same ns.schedule;
        app = c.receive-received.ensures.app k h before addressed;
        seen = c.of-seen.ensures ∙ ap seen_of (c.receive-received.ensures.mark k h before addressed);
      })

  took : HasTakenEffect k c.take_effect-transition.new.self inputs (given_view c.args.given c.args.frame.now) c.receive-received.result.mark c.take_effect-transition.result
  took = both.0

  -- what a download set, then what RPDOs did
  set : c.take_effect-transition.new.changes ≡ with_keys k.description (last_set k (given_view c.args.given c.args.frame.now ∷ inputs)) c.args.changes.now
  set =
      both.1
      ∙ ap (with_keys k.description (set_by_rpdos k m))
      (c.note_download.ensures c.args.frame.now
      ∙ ap (λ (d : Description). with_keys d (set_by_request (given_view c.args.given c.args.frame.now) c.receive-received.result.mark) c.args.changes.now) (sym same ∙ ns.description)
      ∙ ap (λ (was : Mark). with_keys k.description (set_by_request (given_view c.args.given c.args.frame.now) was) c.args.changes.now) mark)
      ∙ sym (noted_all k.description (set_by_request (given_view c.args.given c.args.frame.now) m.mark) (set_by_rpdos k m) c.args.changes.now)

  stands : Stands k c.send.new.self (given_view c.args.given c.args.frame.now ∷ inputs)
  stands = c.send.ensures.stands k inputs (given_view c.args.given c.args.frame.now) took

  first_sent : c.receive-received.new.outbox.items ≡ frames_at m.exchange ++ frames_at m.timed_out
  first_sent = c.receive-received.ensures.frames k h before addressed ∙ ap (λ o. o ++ (frames_at m.exchange ++ frames_at m.timed_out)) c.clear.ensures

  sent : c.send.new.outbox.items ≡ frames k m
  sent = c.send.ensures.frames k inputs (given_view c.args.given c.args.frame.now) took ∙ ap (with_sent k m) first_sent

  parts : HasParts k inputs (given_view c.args.given c.args.frame.now)
  parts = record { dictionary = dictionary }
    where
      dictionary : IsDictionary k.description m.contents
      dictionary = subst (λ d. IsDictionary d m.contents) stands.description (subst (λ entries. IsDictionary (g.S.ObjectStore.description c.send.new.self.store) entries) stands.contents c.store_laws.ensures)

pub returns-clause-stands : goal.returns-clause-stands
returns-clause-stands g c = λ k inputs ns who. stands g c k inputs ns who

pub returns-clause-frames : goal.returns-clause-frames
returns-clause-frames g c = λ k inputs ns who. sent g c k inputs ns who

pub returns-clause-changes : goal.returns-clause-changes
returns-clause-changes g c = λ k inputs ns who. set g c k inputs ns who

pub returns-clause-few : goal.returns-clause-few
returns-clause-few g c = λ k inputs ns who.
    subst (λ os. length os ≤ frame_bound k inputs (given_view c.args.given c.args.frame.now)) (sym (sent g c k inputs ns who)) (c.few.ensures k inputs (given_view c.args.given c.args.frame.now) (parts g c k inputs ns who))

pub returns-clause-seen : goal.returns-clause-seen
returns-clause-seen g c = λ k inputs ns who.
    c.of-seen.ensures ∙ ap seen_of (c.receive-received.ensures.mark k (h g c k inputs ns who) (before g c k inputs ns who) who)

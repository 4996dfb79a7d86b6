use Rattle.std.proofs.Common.{◌≡◌, ap, ◌∙◌, subst, sym, List, ℕ}
use Rattle.co_dict.specs.Rows.{Contents}
use Rattle.co_dict.specs.declared.side.Side.TheVariants.{Rpdo}
use Rattle.co_frame.specs.declared.emergency.Emergency.{Emergency}
use Rattle.co_pdo.specs.Images.{answered, contents_after, fault_of}
use Rattle.co_node_parts.specs.EmergencyQueues.{EmergenciesStand, with_queued}
use Rattle.co_node_device.specs.MappingTables.{IsMappingTable}
use Rattle.co_node_model.specs.Emergencies.{all_raised, emergencies_of}
use Rattle.co_node_model.specs.Rpdos.{mapping_for, value_errors, with_data}
use Rattle.co_node_laws.specs.Settings.{HasSameSettings}
use Rattle.co_dict_placed.specs.Changes.{with_keys}
use Rattle.co_pdo_compiled.specs.SetEntries.{keys_set}
use Rattle.co_node_device.proofs.Data.{by_all}
use Rattle.co_node_device.proofs.rpdos.take_data.Given as given
use Rattle.co_node_device.proofs.rpdos.take_data.Goals as goal

module _ (g : given.Over) (c : goal.After-mappings_stay g)
    (table : IsMappingTable Rpdo (g.S.ObjectStore.description c.args.store.now) (g.S.ObjectStore.contents c.args.store.now) c.args.mappings.now) where
  fault : answered c.apply-outcome.result ≡ fault_of (g.S.ObjectStore.description c.args.store.now).rows
      (mapping_for (g.S.ObjectStore.description c.args.store.now) (g.S.ObjectStore.contents c.args.store.now) c.args.rpdo.now) c.args.rpdo.now.frame.bytes
  fault = c.apply-outcome.ensures.fault Rpdo table ∙ ap (fault_of (g.S.ObjectStore.description c.args.store.now).rows (mapping_for (g.S.ObjectStore.description c.args.store.now) (g.S.ObjectStore.contents c.args.store.now) c.args.rpdo.now)) c.bytes.ensures.bytes

  written : g.S.ObjectStore.contents c.apply-outcome.new.store
      ≡ with_data (g.S.ObjectStore.description c.args.store.now) (g.S.ObjectStore.contents c.args.store.now) c.args.rpdo.now
  written = c.apply-outcome.ensures.contents Rpdo table ∙ ap (λ (b : List ℕ). contents_after (g.S.ObjectStore.description c.args.store.now).rows (mapping_for (g.S.ObjectStore.description c.args.store.now) (g.S.ObjectStore.contents c.args.store.now) c.args.rpdo.now) b (g.S.ObjectStore.contents c.args.store.now)) c.bytes.ensures.bytes

pub returns-clause-contents : goal.returns-clause-contents
returns-clause-contents g c = λ table.
    c.raise_outcome.ensures.contents
    ∙ by_all (λ d o contents. all_raised d.rows (value_errors o) contents) c.apply-outcome.ensures.description (fault g c table) (written g c table)

pub returns-clause-emergencies : goal.returns-clause-emergencies
returns-clause-emergencies g c = λ log table h.
    subst (λ (es : List Emergency). EmergenciesStand c.raise_outcome.new.emergencies (with_queued es log))
    (by_all (λ d o contents. emergencies_of d.rows (value_errors o) contents) c.apply-outcome.ensures.description (fault g c table) (written g c table))
    (c.raise_outcome.ensures.emergencies log h)

pub returns-clause-changes : goal.returns-clause-changes
returns-clause-changes g c = λ table.
    let d = g.S.ObjectStore.description c.args.store.now in
    let contents = g.S.ObjectStore.contents c.args.store.now in
    c.apply-outcome.ensures.changes Rpdo table
    ∙ ap (λ (b : List ℕ). with_keys d (keys_set d.rows (mapping_for d contents c.args.rpdo.now) b) c.args.changes.now) c.bytes.ensures.bytes

pub returns-clause-table : goal.returns-clause-table
returns-clause-table g c = λ table.
    let after = c.raise_outcome.ensures.contents
    ∙ by_all (λ d o contents. all_raised d.rows (value_errors o) contents) c.apply-outcome.ensures.description (fault g c table) (written g c table) in
    c.mappings_stay.ensures Rpdo (g.S.ObjectStore.description c.args.store.now) (g.S.ObjectStore.contents c.args.store.now) (g.S.ObjectStore.contents c.raise_outcome.new.store) c.args.mappings.now
    (c.settings_kept.ensures.mappings _ _ (subst (λ (e : Contents). HasSameSettings (g.S.ObjectStore.contents c.args.store.now) e) (sym after)
    (c.settings_kept.ensures.taken (g.S.ObjectStore.description c.args.store.now) (g.S.ObjectStore.contents c.args.store.now) c.args.rpdo.now))) table

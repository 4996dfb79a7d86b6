use Rattle.std.proofs.Common.{◌≡◌, take}
use Rattle.co_node_parts.specs.EmergencyQueues.{EmergencyLog, EmergenciesStand, with_queued}
use Rattle.co_node_model.specs.Rpdos.{after_all_data, all_data_emergencies}
use Rattle.co_dict.specs.declared.side.Side.TheVariants.{Rpdo}
use Rattle.co_node_device.specs.MappingTables.{IsMappingTable}
use Rattle.co_dict_placed.specs.Changes.{with_keys}
use Rattle.co_node_device.specs.SetEntries.{set_by_all_data}
use Rattle.co_node_device.proofs.rpdos.take_all_data.Given as goal

-- the data of the frames before the index took effect
abbrev pub invariant-loop-rpdo : goal.invariant-loop-rpdo
invariant-loop-rpdo g l = record {
  description : g.S.ObjectStore.description l.store ≡ g.S.ObjectStore.description l.fn.store;
  contents : IsMappingTable Rpdo (g.S.ObjectStore.description l.fn.store) (g.S.ObjectStore.contents l.fn.store) l.mappings
      → g.S.ObjectStore.contents l.store ≡ after_all_data (g.S.ObjectStore.description l.fn.store) (g.S.ObjectStore.contents l.fn.store) (take l.rpdo-index l.rpdos);
  table : IsMappingTable Rpdo (g.S.ObjectStore.description l.fn.store) (g.S.ObjectStore.contents l.fn.store) l.mappings
      → IsMappingTable Rpdo (g.S.ObjectStore.description l.fn.store) (g.S.ObjectStore.contents l.store) l.mappings;
  emergencies : (queued : EmergencyLog) → IsMappingTable Rpdo (g.S.ObjectStore.description l.fn.store) (g.S.ObjectStore.contents l.fn.store) l.mappings → EmergenciesStand l.fn.emergencies queued
      → EmergenciesStand l.emergencies (with_queued (all_data_emergencies (g.S.ObjectStore.description l.fn.store) (g.S.ObjectStore.contents l.fn.store) (take l.rpdo-index l.rpdos)) queued);
  changes : IsMappingTable Rpdo (g.S.ObjectStore.description l.fn.store) (g.S.ObjectStore.contents l.fn.store) l.mappings
      → l.changes ≡ with_keys (g.S.ObjectStore.description l.fn.store) (set_by_all_data (g.S.ObjectStore.description l.fn.store) (g.S.ObjectStore.contents l.fn.store) (take l.rpdo-index l.rpdos)) l.fn.changes;
}

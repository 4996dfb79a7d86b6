use Rattle.std.proofs.Common.{◌≡◌, ◌+◌, ◌++◌, length, map, take}
use Rattle.co_node_model.specs.Tpdos.{tpdo_frame}
use Rattle.co_dict.specs.declared.side.Side.TheVariants.{Tpdo}
use Rattle.co_node_device.specs.MappingTables.{IsMappingTable}
use Rattle.co_pdo.specs.Schedules.{History, IsScheduleAfter}
use Rattle.co_node_device.proofs.tpdos.send_tpdos.Given as goal

-- the frames of the numbers so far are there
abbrev pub invariant-loop-number : goal.invariant-loop-number
invariant-loop-number g l = record {
  count : length l.outbox.items ≡ length l.fn.outbox.items + l.number-index;
  sent : (history : History) → IsScheduleAfter (g.S.ObjectStore.description l.fn.store) l.fn.schedule history
      → IsMappingTable Tpdo (g.S.ObjectStore.description l.fn.store) (g.S.ObjectStore.contents l.fn.store) l.fn.mappings
      → l.outbox.items ≡ l.fn.outbox.items ++ map (tpdo_frame (g.S.ObjectStore.description l.fn.store)
      (g.S.ObjectStore.contents l.fn.store)) (take l.number-index l.fn.numbers);
}

use Rattle.std.proofs.Common.{◌≡◌, length, vec_capacity}
use Rattle.co_node_device.specs.MappingTables.{AreForms}
use Rattle.co_node_device.proofs.mapping_table.MappingTable.new.Given as goal

-- those below k are compiled
abbrev pub invariant-loop-k : goal.invariant-loop-k
invariant-loop-k g l = record {
  room : vec_capacity l.pdos ≡ l.count;
  count : length l.pdos.items ≡ l.k;
  forms : AreForms l.side (g.S.ObjectStore.description l.store) (g.S.ObjectStore.contents l.store) l.pdos.items;
}

use Rattle.std.proofs.Common.{◌≡◌, ◌≤◌, length}
use Rattle.std.specs.List.{filter, range_with_len}
use Rattle.co_node_model.specs.Tpdos.{is_mapped_into}
use Rattle.co_node_device.proofs.tpdos.numbers_with.Given as goal

-- those of the numbers so far are there
abbrev pub invariant-loop-k : goal.invariant-loop-k
invariant-loop-k g l = record {
  few : length l.numbers.items ≤ l.k;
  numbers : l.numbers.items ≡ filter (is_mapped_into (g.S.ObjectStore.description l.store)
      (g.S.ObjectStore.contents l.store) l.key) (range_with_len 0 l.k);
}

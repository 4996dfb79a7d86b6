use Rattle.std.proofs.Common.{◌≡◌, ◌≤◌, true, length, drop}
use Rattle.co_pdo.specs.Mappings.{total_of, all_there}
use Rattle.co_pdo.specs.Images.{with_parts, written_in_order}
use Rattle.co_pdo.proofs.data.write_parts.Given as goal

-- the parts before the index are written
abbrev pub invariant-loop-mapped : goal.invariant-loop-mapped
invariant-loop-mapped g l = record {
  there : all_there (g.S.ObjectStore.description l.fn.store).rows (drop l.mapped-index l.fn.entries) ≡ true;
  enough : total_of (drop l.mapped-index l.fn.entries) ≤ length l.rest;
  description : g.S.ObjectStore.description l.store ≡ g.S.ObjectStore.description l.fn.store;
  same : written_in_order (g.S.ObjectStore.contents l.store) (with_parts (drop l.mapped-index l.fn.entries) l.rest) ≡ written_in_order (g.S.ObjectStore.contents l.fn.store) (with_parts l.fn.entries l.fn.bytes);
}

use Rattle.std.proofs.Common.{◌≡◌, ◌+◌, ◌++◌, true, length, drop}
use Rattle.co_pdo.specs.Mappings.{total_of, all_there}
use Rattle.co_pdo.specs.Images.{image_of}
use Rattle.co_pdo.proofs.data.joined.Given as goal

-- the bytes before the index are joined
abbrev pub invariant-loop-mapped : goal.invariant-loop-mapped
invariant-loop-mapped g l = record {
  there : all_there (g.S.ObjectStore.description l.fn.store).rows (drop l.mapped-index l.fn.entries) ≡ true;
  room : length l.image.items + total_of (drop l.mapped-index l.fn.entries) ≡ total_of l.fn.entries;
  same : l.image.items ++ image_of (g.S.ObjectStore.contents l.fn.store) (drop l.mapped-index l.fn.entries) ≡ image_of (g.S.ObjectStore.contents l.fn.store) l.fn.entries;
}

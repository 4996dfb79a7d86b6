use Rattle.std.proofs.Common.{◌≡◌, ◌≤◌, true, length, drop}
use Rattle.co_pdo.specs.Mappings.{total_of, all_there}
use Rattle.co_pdo.specs.Images.{any_outside}
use Rattle.co_pdo.proofs.data.any_outside.Given as goal

-- the parts before the index are within their limits
abbrev pub invariant-loop-mapped : goal.invariant-loop-mapped
invariant-loop-mapped g l = record {
  there : all_there (g.S.ObjectStore.description l.fn.store).rows (drop l.mapped-index l.fn.entries) ≡ true;
  enough : total_of (drop l.mapped-index l.fn.entries) ≤ length l.rest;
  same : any_outside (g.S.ObjectStore.description l.fn.store).rows (drop l.mapped-index l.fn.entries) l.rest ≡ any_outside (g.S.ObjectStore.description l.fn.store).rows l.fn.entries l.fn.bytes;
}

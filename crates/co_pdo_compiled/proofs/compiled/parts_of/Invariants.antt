use Rattle.std.proofs.Common.{◌≡◌, length, take}
use Rattle.co_pdo_compiled.specs.CompiledMappings.{mapping_in, HasParts}
use Rattle.co_pdo_compiled.proofs.compiled.parts_of.Given as goal

-- the entries before the index have their parts
abbrev pub invariant-loop-mapped : goal.invariant-loop-mapped
invariant-loop-mapped g l = record {
  count : length l.parts.items ≡ l.mapped-index;
  same : mapping_in l.parts.items ≡ take l.mapped-index l.fn.entries;
  has : HasParts (g.S.ObjectStore.description l.fn.store) l.parts.items;
}

use Rattle.std.proofs.Common.{◌≡◌, ◌+◌, ◌++◌, length, drop}
use Rattle.co_pdo.specs.Mappings.{total_of}
use Rattle.co_pdo.specs.Images.{image_of}
use Rattle.co_pdo_compiled.specs.CompiledMappings.{mapping_in}
use Rattle.co_pdo_compiled.proofs.data.joined.Given as goal

-- the bytes before the index are joined
abbrev pub invariant-loop-part : goal.invariant-loop-part
invariant-loop-part g l = record {
  room : length l.image + total_of (mapping_in (drop l.part-index l.fn.parts)) ≡ total_of (mapping_in l.fn.parts);
  same : l.image ++ image_of (g.S.ObjectStore.contents l.fn.store) (mapping_in (drop l.part-index l.fn.parts))
      ≡ image_of (g.S.ObjectStore.contents l.fn.store) (mapping_in l.fn.parts);
}

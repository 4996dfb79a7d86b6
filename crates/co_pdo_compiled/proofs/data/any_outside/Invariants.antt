use Rattle.std.proofs.Common.{◌≡◌, ◌≤◌, length, drop}
use Rattle.co_pdo.specs.Mappings.{total_of}
use Rattle.co_pdo.specs.Images.{any_outside}
use Rattle.co_pdo_compiled.specs.CompiledMappings.{mapping_in}
use Rattle.co_pdo_compiled.proofs.data.any_outside.Given as goal

-- the parts before the index are within their limits
abbrev pub invariant-loop-part : goal.invariant-loop-part
invariant-loop-part g l = record {
  enough : total_of (mapping_in (drop l.part-index l.fn.parts)) ≤ length l.rest;
  same : any_outside (g.S.ObjectStore.description l.fn.store).rows (mapping_in (drop l.part-index l.fn.parts)) l.rest
      ≡ any_outside (g.S.ObjectStore.description l.fn.store).rows (mapping_in l.fn.parts) l.fn.bytes;
}

use Rattle.std.proofs.Common.{◌≡◌, length, take}
use Rattle.co_pdo_compiled.specs.CompiledMappings.{mapping_in}
use Rattle.co_pdo_compiled.proofs.compiled.Compiled.mapped.Given as goal

-- what the parts before the index map
abbrev pub invariant-loop-part : goal.invariant-loop-part
invariant-loop-part l = record {
  count : length l.mapped.items ≡ l.part-index;
  same : l.mapped.items ≡ mapping_in (take l.part-index l.fn.self);
}

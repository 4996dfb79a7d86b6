use Rattle.std.proofs.Common.{◌≡◌, ◌≤◌, length, drop}
use Rattle.co_pdo.specs.Mappings.{total_of}
use Rattle.co_pdo.specs.Images.{with_parts, written_in_order}
use Rattle.co_dict_placed.specs.Changes.{with_keys}
use Rattle.co_pdo_compiled.specs.CompiledMappings.{mapping_in}
use Rattle.co_pdo_compiled.specs.SetEntries.{keys_in}
use Rattle.co_pdo_compiled.proofs.data.write_parts.Given as goal

-- the parts before the index are written
abbrev pub invariant-loop-part : goal.invariant-loop-part
invariant-loop-part g l = record {
  enough : total_of (mapping_in (drop l.part-index l.fn.parts)) ≤ length l.rest;
  description : g.S.ObjectStore.description l.store ≡ g.S.ObjectStore.description l.fn.store;
  same : written_in_order (g.S.ObjectStore.contents l.store) (with_parts (mapping_in (drop l.part-index l.fn.parts)) l.rest)
      ≡ written_in_order (g.S.ObjectStore.contents l.fn.store) (with_parts (mapping_in l.fn.parts) l.fn.bytes);
  changes : with_keys (g.S.ObjectStore.description l.fn.store) (keys_in (mapping_in (drop l.part-index l.fn.parts))) l.changes
      ≡ with_keys (g.S.ObjectStore.description l.fn.store) (keys_in (mapping_in l.fn.parts)) l.fn.changes;
}

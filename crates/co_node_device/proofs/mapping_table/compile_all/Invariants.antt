use Rattle.std.proofs.Common.{ℕ, ◌<◌, List, get_or}
use Rattle.co_pdo.specs.Mappings.{mapping_of}
use Rattle.co_pdo_compiled.specs.declared.part.Part.{Part}
use Rattle.co_pdo_compiled.specs.CompiledMappings.{IsCompiledForm}
use Rattle.co_node_device.proofs.mapping_table.compile_all.Given as goal

-- those below k are compiled
abbrev pub invariant-loop-k : goal.invariant-loop-k
invariant-loop-k g l = (j : ℕ) (parts : List Part) → j < l.k
    → IsCompiledForm (g.S.ObjectStore.description l.store)
    (mapping_of l.side (g.S.ObjectStore.description l.store) (g.S.ObjectStore.contents l.store) j) (get_or l.pdos j parts)

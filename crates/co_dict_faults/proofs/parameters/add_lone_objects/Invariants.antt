use Rattle.std.proofs.Common.{◌≡◌, ◌++◌, None, map, drop}
use Rattle.co_dict_faults.specs.AllBuildFaults.{unpaired_past}
use Rattle.co_dict_faults.proofs.parameters.add_lone_objects.Given as goal

-- those so far, and after them those of the rest
abbrev pub invariant-loop-row : goal.invariant-loop-row
invariant-loop-row g l =
    l.faults.items ++ unpaired_past (g.S.ObjectStore.description l.store).rows l.last (map (λ row. row.key) (drop l.row-index l.rows))
    ≡ l.fn.faults.items ++ unpaired_past (g.S.ObjectStore.description l.store).rows None (map (λ row. row.key) l.rows)

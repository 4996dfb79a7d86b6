use Rattle.std.proofs.Common.{◌≡◌, ◌++◌, map, drop}
use Rattle.co_dict_faults.specs.AllBuildFaults.{bad_words}
use Rattle.co_dict_faults.proofs.parameters.add_words.Given as goal

-- those so far, and after them those of the rest
abbrev pub invariant-loop-row : goal.invariant-loop-row
invariant-loop-row g l =
    let d = g.S.ObjectStore.description l.store in
    let contents = g.S.ObjectStore.contents l.store in
    l.faults.items ++ bad_words l.outside d contents (map (λ row. row.key) (drop l.row-index l.rows)) ≡ l.fn.faults.items ++ bad_words l.outside d contents (map (λ row. row.key) l.rows)

-- What the rest finds is what all rows find.
use Rattle.std.proofs.Common.{◌≡◌, drop}
use Rattle.std.specs.Prelude.{find, map}
use Rattle.co_dict_build.specs.BuildFaults.{is_unpaired}
use Rattle.co_dict_build.proofs.build.pdo_pairs.unpaired.Given as goal

abbrev pub invariant-loop-row : goal.invariant-loop-row
invariant-loop-row g l =
    find (is_unpaired (g.S.ObjectStore.description l.store).rows) (map (λ row. row.key.index) (drop l.row-index l.rows))
    ≡ find (is_unpaired (g.S.ObjectStore.description l.store).rows) (map (λ row. row.key.index) l.rows)

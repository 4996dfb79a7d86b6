-- What the rest finds is what all rows find.
use Rattle.std.proofs.Common.{◌≡◌, drop}
use Rattle.std.specs.Prelude.{map}
use Rattle.co_dict_build.specs.BuildFaults.{is_bad_cob_id, smallest_key}
use Rattle.co_dict_build.proofs.build.cob_ids.bad_cob_id.Given as goal

abbrev pub invariant-loop-row : goal.invariant-loop-row
invariant-loop-row g l =
    smallest_key (is_bad_cob_id (g.S.ObjectStore.description l.store).node (g.S.ObjectStore.contents l.store)) (map (λ row. row.key) (drop l.row-index l.rows))
    ≡ smallest_key (is_bad_cob_id (g.S.ObjectStore.description l.store).node (g.S.ObjectStore.contents l.store)) (map (λ row. row.key) l.rows)

use Rattle.std.proofs.Common.{sym}
use Rattle.std.proofs.lemmas.List.{map_more}
use Rattle.conode_compare_report.specs.Occasions.{none_of}
use Rattle.conode_compare_report.proofs.occasions.none_of_all.Goals as goal

pub loop-kind-preserved : goal.loop-kind-preserved
loop-kind-preserved c =
    rw (c.in_ok-push.ensures.items, c.loop-kind.invariant)
    (sym (map_more none_of c.args.kinds.now c.loop-kind.kind-index _ c.loop-kind-test.true))

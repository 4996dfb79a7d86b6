use Rattle.std.proofs.Common.{sym}
use Rattle.std.proofs.lemmas.List.{map_more}
use Rattle.conode_compare_report.specs.Coverages.{none_of}
use Rattle.conode_compare_report.proofs.service.none_of_all.Goals as goal

pub loop-service-preserved : goal.loop-service-preserved
loop-service-preserved c =
    rw (c.in_ok-push.ensures.items, c.loop-service.invariant)
    (sym (map_more none_of c.args.services.now c.loop-service.service-index _ c.loop-service-test.true))

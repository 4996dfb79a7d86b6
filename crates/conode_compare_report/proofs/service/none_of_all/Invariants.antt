use Rattle.std.proofs.Common.{◌≡◌, map, take}
use Rattle.conode_compare_report.specs.Coverages.{none_of}
use Rattle.conode_compare_report.proofs.service.none_of_all.Given as goal

abbrev pub invariant-loop-service : goal.invariant-loop-service
invariant-loop-service l = l.counts.items ≡ map none_of (take l.service-index l.services)

use Rattle.std.proofs.Common.{◌≡◌, map, take}
use Rattle.conode_compare_report.specs.Occasions.{none_of}
use Rattle.conode_compare_report.proofs.occasions.none_of_all.Given as goal

abbrev pub invariant-loop-kind : goal.invariant-loop-kind
invariant-loop-kind l = l.counts.items ≡ map none_of (take l.kind-index l.kinds)

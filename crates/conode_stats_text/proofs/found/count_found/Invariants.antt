use Rattle.std.proofs.Common.{◌≡◌, length, take}
use Rattle.std.specs.List.{flat_map}
use Rattle.conode_stats_counts.specs.Gaps.{counted}
use Rattle.conode_stats_text.specs.Found.{found, kinds}
use Rattle.conode_stats_text.proofs.found.count_found.Given as goal

abbrev pub invariant-loop-kind : goal.invariant-loop-kind
invariant-loop-kind l = l.count ≡ counted (length (flat_map (found l.page) (take l.kind-index kinds)))

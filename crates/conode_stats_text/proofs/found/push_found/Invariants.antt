use Rattle.std.proofs.Common.{take}
use Rattle.std.specs.List.{flat_map}
use Rattle.conode_stats_text.specs.Found.{kind_lines_of, kinds}
use Rattle.conode_stats_text.specs.Papers.{IsAppended}
use Rattle.conode_stats_text.proofs.found.push_found.Given as goal

abbrev pub invariant-loop-kind : goal.invariant-loop-kind
invariant-loop-kind l = IsAppended l.fn.paper (flat_map (kind_lines_of l.from l.until l.page) (take l.kind-index kinds)) l.paper

use Rattle.std.proofs.Common.{take}
use Rattle.std.specs.List.{flat_map}
use Rattle.conode_stats_text.specs.Findings.{IsListed}
use Rattle.conode_stats_text.specs.Found.{row_found}
use Rattle.conode_stats_text.proofs.found.push_rows_of.Given as goal

abbrev pub invariant-loop-row : goal.invariant-loop-row
invariant-loop-row l = IsListed l.fn.paper l.fn.excerpt (flat_map (row_found l.kind l.interface l.node) (take l.row-index l.rows)) l.paper l.excerpt

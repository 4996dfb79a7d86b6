use Rattle.std.proofs.Common.{take}
use Rattle.std.specs.List.{flat_map}
use Rattle.conode_stats_text.specs.Papers.{IsAppended}
use Rattle.conode_stats_text.specs.StatsLines.{row_line}
use Rattle.conode_stats_text.proofs.tables.push_all_rows.Given as goal

abbrev pub invariant-loop-row : goal.invariant-loop-row
invariant-loop-row l = IsAppended l.fn.paper (flat_map (row_line l.interface) (take l.row-index l.rows)) l.paper

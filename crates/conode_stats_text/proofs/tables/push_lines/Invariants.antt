use Rattle.std.proofs.Common.{take}
use Rattle.std.specs.List.{flat_map}
use Rattle.conode_stats_text.specs.Tables.{lines_on}
use Rattle.conode_stats_text.specs.Papers.{IsAppended}
use Rattle.conode_stats_text.proofs.tables.push_lines.Given as goal

abbrev pub invariant-loop-bus : goal.invariant-loop-bus
invariant-loop-bus l = IsAppended l.fn.paper (flat_map (lines_on l.table l.page) (take l.bus-index l.page.counts.now.buses)) l.paper

use Rattle.std.proofs.Common.{map, take}
use Rattle.co_sheet.specs.SheetViews.{row_view}
use Rattle.conode_io.specs.Written.{WritesLines}
use Rattle.conode_compare.specs.LastLines.{values_lines}
use Rattle.conode_compare.specs.Views.{comparison_view}
use Rattle.conode_compare.proofs.last_lines.write_values.Given as goal

-- the lines of the entries before this one
abbrev pub invariant-loop-row : goal.invariant-loop-row
invariant-loop-row g l = WritesLines (g.O.Write.contents l.fn.out) (g.O.Write.contents l.out) (values_lines (comparison_view l.settings) l.learned (map row_view (take l.row-index l.settings.rows.now)))

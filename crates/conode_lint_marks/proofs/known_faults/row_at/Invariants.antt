use Rattle.std.proofs.Common.{◌≡◌, map, drop}
use Rattle.co_sheet.specs.SheetViews.{row_view}
use Rattle.conode_lint_marks.specs.KnownFaults.{row_at}
use Rattle.conode_lint_marks.proofs.known_faults.row_at.Given as goal

-- what the rest gives is what all give
abbrev pub invariant-loop-row : goal.invariant-loop-row
invariant-loop-row l = row_at (map row_view (drop l.row-index l.rows)) l.key ≡ row_at (map row_view l.rows) l.key

use Rattle.std.proofs.Common.{◌≡◌, map, drop}
use Rattle.co_sheet.specs.SheetViews.{row_view}
use Rattle.conode_lint_marks.specs.BuildLines.{row_line}
use Rattle.conode_lint_marks.proofs.build_lines.row_line.Given as goal

-- what the rest gives is what all give
abbrev pub invariant-loop-entry : goal.invariant-loop-entry
invariant-loop-entry l =
    row_line (map row_view (drop l.entry-index l.entries)) l.key ≡ row_line (map row_view l.entries) l.key

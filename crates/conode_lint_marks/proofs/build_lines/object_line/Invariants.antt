use Rattle.std.proofs.Common.{◌≡◌, map, drop}
use Rattle.co_sheet.specs.SheetViews.{object_row_view}
use Rattle.conode_lint_marks.specs.BuildLines.{object_line}
use Rattle.conode_lint_marks.proofs.build_lines.object_line.Given as goal

-- what the rest gives is what all give
abbrev pub invariant-loop-object : goal.invariant-loop-object
invariant-loop-object l =
    object_line (map object_row_view (drop l.object-index l.objects)) l.index ≡ object_line (map object_row_view l.objects) l.index

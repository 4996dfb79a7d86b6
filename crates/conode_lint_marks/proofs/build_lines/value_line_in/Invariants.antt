use Rattle.std.proofs.Common.{◌≡◌, map, drop}
use Rattle.co_sheet_text.specs.Views.{section_view}
use Rattle.conode_lint_marks.specs.BuildLines.{value_line_in}
use Rattle.conode_lint_marks.proofs.build_lines.value_line_in.Given as goal

-- what the rest gives is what all give
abbrev pub invariant-loop-section : goal.invariant-loop-section
invariant-loop-section l =
    value_line_in (map section_view (drop l.section-index l.sections)) l.line ≡ value_line_in (map section_view l.sections) l.line

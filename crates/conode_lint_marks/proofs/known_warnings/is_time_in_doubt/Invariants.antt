use Rattle.std.proofs.Common.{◌≡◌, map, drop}
use Rattle.co_sheet_text.specs.Views.{section_view}
use Rattle.conode_lint_marks.specs.KnownWarnings.{is_time_in_doubt}
use Rattle.conode_lint_marks.proofs.known_warnings.is_time_in_doubt.Given as goal

-- what the rest gives is what all give
abbrev pub invariant-loop-section : goal.invariant-loop-section
invariant-loop-section l = is_time_in_doubt (map section_view (drop l.section-index l.sections)) l.doubts l.line ≡ is_time_in_doubt (map section_view l.sections) l.doubts l.line

use Rattle.std.proofs.Common.{◌≡◌, map, drop}
use Rattle.co_sheet_text.specs.Views.{section_view}
use Rattle.conode_lint_marks.specs.KnownWarnings.{is_before_next}
use Rattle.conode_lint_marks.proofs.known_warnings.is_before_next.Given as goal

-- what the rest gives is what all give
abbrev pub invariant-loop-section : goal.invariant-loop-section
invariant-loop-section l =
    is_before_next l.line (map section_view (drop l.section-index l.here)) l.number ≡ is_before_next l.line (map section_view l.here) l.number

use Rattle.std.proofs.Common.{◌≡◌, map, drop}
use Rattle.std.specs.List.{list_any}
use Rattle.co_sheet_text.specs.Views.{section_view}
use Rattle.conode_lint_marks.specs.KnownWarnings.{is_first}
use Rattle.conode_lint_marks.proofs.known_warnings.has_any_first.Given as goal

-- what the rest gives is what all give
abbrev pub invariant-loop-first : goal.invariant-loop-first
invariant-loop-first l =
    list_any (is_first l.kind l.doubts (section_view l.section) l.number) (map section_view (drop l.first-index l.sections))
    ≡ list_any (is_first l.kind l.doubts (section_view l.section) l.number) (map section_view l.sections)

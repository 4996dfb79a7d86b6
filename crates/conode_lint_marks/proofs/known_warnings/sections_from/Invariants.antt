use Rattle.std.proofs.Common.{◌≡◌, length, map}
use Rattle.co_sheet_text.specs.Views.{section_view}
use Rattle.conode_lint_marks.specs.KnownWarnings.{sections_from}
use Rattle.conode_lint_marks.proofs.known_warnings.sections_from.Given as goal

-- what is found in the rest is found in all
abbrev pub invariant-loop-rest : goal.invariant-loop-rest
invariant-loop-rest l =
    sections_from l.line (map section_view l.rest) ≡ sections_from l.line (map section_view l.sections)

abbrev pub decreases-loop-rest : goal.decreases-loop-rest
decreases-loop-rest l = length l.rest

use Rattle.std.proofs.Common.{◌≡◌, drop, map}
use Rattle.co_sheet_text.specs.Views.{section_view}
use Rattle.conode_lint_text.specs.Facts.{section_on}
use Rattle.conode_lint_text.proofs.facts.section_on.Given as goal

-- what is found in the rest is found in all
abbrev pub invariant-loop-section : goal.invariant-loop-section
invariant-loop-section l =
    section_on l.line (map section_view (drop l.section-index l.sections)) ≡ section_on l.line (map section_view l.sections)

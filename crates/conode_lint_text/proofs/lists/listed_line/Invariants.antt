use Rattle.std.proofs.Common.{◌≡◌, drop, map}
use Rattle.co_sheet_text.specs.Views.{section_view}
use Rattle.conode_lint_text.specs.Facts.{listed_line}
use Rattle.conode_lint_text.proofs.lists.listed_line.Given as goal

-- what is found in the rest is found in all
abbrev pub invariant-loop-section : goal.invariant-loop-section
invariant-loop-section l =
    listed_line l.index (map section_view (drop l.section-index l.sections)) ≡ listed_line l.index (map section_view l.sections)

use Rattle.std.proofs.Common.{◌≡◌, drop, map}
use Rattle.co_sheet_text.specs.Views.{section_view}
use Rattle.conode_lint_text.specs.Facts.{highest_from, highest_of}
use Rattle.conode_lint_text.proofs.numbers.highest_of.Given as goal

-- the highest of the rest and of those so far is the highest of all
abbrev pub invariant-loop-section : goal.invariant-loop-section
invariant-loop-section l =
    highest_from l.index l.highest (map section_view (drop l.section-index l.sections)) ≡ highest_of l.index (map section_view l.sections)

use Rattle.std.proofs.Common.{◌≡◌, drop, map}
use Rattle.co_sheet_text.specs.Views.{section_view}
use Rattle.conode_adapt.specs.NoSheet.{has_section}
use Rattle.conode_adapt.proofs.no_sheet.has_section.Given as goal

-- what is among the rest is among all
abbrev pub invariant-loop-section : goal.invariant-loop-section
invariant-loop-section l = has_section (map section_view (drop l.section-index l.sections)) ≡ has_section (map section_view l.sections)

use Rattle.std.proofs.Common.{◌≡◌, drop, map}
use Rattle.co_sheet_text.specs.Views.{section_view}
use Rattle.conode_show.specs.Shown.{has_object}
use Rattle.conode_show.proofs.shown_file.has_object_among.Given as goal

-- what is among the rest is among all
abbrev pub invariant-loop-section : goal.invariant-loop-section
invariant-loop-section l = has_object (map section_view (drop l.section-index l.sections)) ≡ has_object (map section_view l.sections)

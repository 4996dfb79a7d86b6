use Rattle.std.proofs.Common.{◌≡◌, drop, map}
use Rattle.co_sheet_text.specs.Views.{section_view}
use Rattle.conode_show_text.specs.Entries.{has_sub_index}
use Rattle.conode_show_text.proofs.entries.has_sub_index.Given as goal

-- what is among the rest is among all
abbrev pub invariant-loop-section : goal.invariant-loop-section
invariant-loop-section l = has_sub_index l.index (map section_view (drop l.section-index l.sections)) ≡ has_sub_index l.index (map section_view l.sections)

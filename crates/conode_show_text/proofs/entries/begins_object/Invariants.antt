use Rattle.std.proofs.Common.{◌≡◌, drop, map}
use Rattle.co_sheet_text.specs.Views.{section_view}
use Rattle.conode_show_text.specs.Entries.{begins_object}
use Rattle.conode_show_text.proofs.entries.begins_object.Given as goal

-- what the rest says is what all say
abbrev pub invariant-loop-section : goal.invariant-loop-section
invariant-loop-section l = begins_object l.key (map section_view (drop l.section-index l.sections)) ≡ begins_object l.key (map section_view l.sections)

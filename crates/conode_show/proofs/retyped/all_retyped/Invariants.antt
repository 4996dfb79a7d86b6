use Rattle.std.proofs.Common.{◌≡◌, map, take}
use Rattle.co_sheet_changes.specs.Views.{text_at}
use Rattle.co_sheet_text.specs.Views.{section_view}
use Rattle.conode_show.specs.Retyped.{retyped_view}
use Rattle.conode_show.specs.Shown.{retyped}
use Rattle.conode_show.proofs.retyped.all_retyped.Given as goal

-- those so far
abbrev pub invariant-loop-section : goal.invariant-loop-section
invariant-loop-section l = map retyped_view l.made.items ≡ map (retyped (text_at l.originals)) (map section_view (take l.section-index l.sections))

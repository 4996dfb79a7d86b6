use Rattle.std.proofs.Common.{◌≡◌, map, take}
use Rattle.co_sheet_text.specs.Views.{section_view}
use Rattle.conode_show.specs.Retyped.{retyped_view}
use Rattle.conode_show.proofs.retyped.sections_in.Given as goal

-- those so far
abbrev pub invariant-loop-one : goal.invariant-loop-one
invariant-loop-one l = map section_view l.made.items ≡ map retyped_view (take l.one-index l.retyped)

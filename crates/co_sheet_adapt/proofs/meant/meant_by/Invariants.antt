use Rattle.std.proofs.Common.{◌≡◌, ◌++◌, drop, map}
use Rattle.co_sheet_changes.specs.Views.{group_view}
use Rattle.co_sheet_adapt.specs.Meant.{as_meant}
use Rattle.co_sheet_adapt.specs.private.Named.{texts_at}
use Rattle.co_sheet_adapt.proofs.meant.meant_by.Given as goal

-- those so far, and after them those of the rest
abbrev pub invariant-loop-group : goal.invariant-loop-group
invariant-loop-group l = map group_view l.made.items ++ map (as_meant (texts_at l.named)) (map group_view (drop l.group-index l.groups)) ≡ map (as_meant (texts_at l.named)) (map group_view l.groups)

use Rattle.std.proofs.Common.{◌≡◌, ◌++◌, drop, map}
use Rattle.std.specs.Prelude.{filter}
use Rattle.co_sheet_changes.specs.Views.{group_view}
use Rattle.co_sheet_adapt.specs.Meant.{is_well_named}
use Rattle.co_sheet_adapt.proofs.meant.well_named.Given as goal

-- those so far, and after them those of the rest
abbrev pub invariant-loop-group : goal.invariant-loop-group
invariant-loop-group l = map group_view l.made.items ++ filter is_well_named (map group_view (drop l.group-index l.groups)) ≡ filter is_well_named (map group_view l.groups)

use Rattle.std.proofs.Common.{◌≡◌, drop, map}
use Rattle.co_sheet_changes.specs.Groups.{value_in}
use Rattle.co_sheet_changes.specs.Views.{line_view}
use Rattle.co_sheet_changes.proofs.group.Group.value.Given as goal

-- what the rest has is what all have
abbrev pub invariant-loop-line : goal.invariant-loop-line
invariant-loop-line l = value_in l.name (map line_view (drop l.line-index l.line-items)) ≡ value_in l.name (map line_view l.line-items)

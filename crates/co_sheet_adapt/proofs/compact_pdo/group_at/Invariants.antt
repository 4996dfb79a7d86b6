use Rattle.std.proofs.Common.{◌≡◌, drop, map}
use Rattle.co_sheet_changes.specs.Views.{group_view}
use Rattle.co_sheet_adapt.specs.CompactPdo.{group_at}
use Rattle.co_sheet_adapt.proofs.compact_pdo.group_at.Given as goal

-- what the rest has is what all have
abbrev pub invariant-loop-group : goal.invariant-loop-group
invariant-loop-group l = group_at l.kind (map group_view (drop l.group-index l.groups)) ≡ group_at l.kind (map group_view l.groups)

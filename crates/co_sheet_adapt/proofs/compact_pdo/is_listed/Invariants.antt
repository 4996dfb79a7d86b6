use Rattle.std.proofs.Common.{◌≡◌, drop, map}
use Rattle.std.specs.List.{list_any}
use Rattle.co_sheet_changes.specs.Views.{group_view}
use Rattle.co_sheet_adapt.specs.CompactPdo.{is_in_list}
use Rattle.co_sheet_adapt.proofs.compact_pdo.is_listed.Given as goal

-- what the rest has is what all have
abbrev pub invariant-loop-group : goal.invariant-loop-group
invariant-loop-group l = list_any (is_in_list l.index) (map group_view (drop l.group-index l.groups)) ≡ list_any (is_in_list l.index) (map group_view l.groups)

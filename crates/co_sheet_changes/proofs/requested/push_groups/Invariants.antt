use Rattle.std.proofs.Common.{◌≡◌, ◌++◌, map, take}
use Rattle.std.specs.List.{flat_map}
use Rattle.co_sheet_changes.specs.Pieces.{piece_view}
use Rattle.co_sheet_changes.specs.Views.{group_view}
use Rattle.co_sheet_changes.specs.Requested.{group_pieces, request_view}
use Rattle.co_sheet_changes.proofs.requested.push_groups.Given as goal

-- those so far
abbrev pub invariant-loop-group : goal.invariant-loop-group
invariant-loop-group l = map piece_view l.pieces.items ≡ map piece_view l.fn.pieces.items ++ flat_map (group_pieces (request_view l.request)) (map group_view (take l.group-index l.groups))

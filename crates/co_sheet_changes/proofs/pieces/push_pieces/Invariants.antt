use Rattle.std.proofs.Common.{◌≡◌, ◌++◌, map, take}
use Rattle.std.specs.List.{flat_map}
use Rattle.co_sheet_changes.specs.Pieces.{written}
use Rattle.co_sheet_changes.specs.Pieces.{piece_view}
use Rattle.co_sheet_changes.proofs.pieces.push_pieces.Given as goal

-- those so far
abbrev pub invariant-loop-piece : goal.invariant-loop-piece
invariant-loop-piece l = l.text.items ≡ l.fn.text.items ++ flat_map written (map piece_view (take l.piece-index l.pieces))

use Rattle.std.proofs.Common.{◌≡◌, drop, map}
use Rattle.co_sheet_changes.specs.Pieces.{piece_view}
use Rattle.co_sheet_changes.specs.Requested.{has_changes}
use Rattle.co_sheet_changes.proofs.requested.has_changes.Given as goal

-- what the rest has is what all have
abbrev pub invariant-loop-piece : goal.invariant-loop-piece
invariant-loop-piece l = has_changes (map piece_view (drop l.piece-index l.pieces)) ≡ has_changes (map piece_view l.pieces)

use Rattle.std.proofs.Common.{◌≡◌, ◌++◌, map, take}
use Rattle.co_sheet_changes.specs.Pieces.{piece_view}
use Rattle.co_sheet_changes.specs.Views.{line_view}
use Rattle.co_sheet_changes.specs.Requested.{line_piece, request_view}
use Rattle.co_sheet_changes.proofs.requested.push_lines.Given as goal

-- those so far
abbrev pub invariant-loop-line : goal.invariant-loop-line
invariant-loop-line l = map piece_view l.pieces.items ≡ map piece_view l.fn.pieces.items ++ map (line_piece (request_view l.request) l.facts) (map line_view (take l.line-index l.lines))

use Rattle.std.proofs.Common.{◌≡◌, ◌++◌, map, take}
use Rattle.co_sheet_adapt.specs.Pieces.{line_piece}
use Rattle.co_sheet_changes.specs.Pieces.{piece_view}
use Rattle.std.specs.Prelude.{option_map}
use Rattle.co_sheet_adapt.specs.private.Pdos.{form_view}
use Rattle.co_sheet_changes.specs.Views.{line_view}
use Rattle.co_sheet_adapt.proofs.pieces.push_lines.Given as goal

-- those so far
abbrev pub invariant-loop-line : goal.invariant-loop-line
invariant-loop-line l = map piece_view l.pieces.items ≡ map piece_view l.fn.pieces.items ++ map (line_piece (option_map (λ f. form_view f.now) l.pdos) l.kind l.facts) (map line_view (take l.line-index l.lines))

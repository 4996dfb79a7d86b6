use Rattle.std.proofs.Common.{ap, map}
use Rattle.co_sheet_changes.specs.Pieces.{piece_view}
use Rattle.co_sheet_changes.specs.Views.{line_view}
use Rattle.co_sheet_adapt.proofs.PiecesLemmas.{put-together}
use Rattle.co_sheet_adapt.proofs.pieces.pieces_of.Goals as goal

pub returns : goal.returns
returns c =
    put-together (map line_view c.args.lines.now) _ _ _ (ap (map piece_view) c.new-pieces.ensures.items) c.before_sections.ensures c.in-Ok.ensures c.in-Ok-push_sections.ensures

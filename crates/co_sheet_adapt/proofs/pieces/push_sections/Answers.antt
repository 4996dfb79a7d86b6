use Rattle.std.proofs.Common.{◌≡◌, List, ◌++◌, ap, ◌∙◌, map, subst}
use Rattle.std.specs.Prelude.{OnOk}
use Rattle.co_sheet_changes.specs.Groups.{Group, groups_of}
use Rattle.co_sheet_changes.specs.Pieces.{Piece, piece_view}
use Rattle.co_sheet_changes.specs.Views.{group_view, line_view}
use Rattle.co_sheet_adapt.specs.Meant.{all_meant}
use Rattle.co_sheet_adapt.specs.Pieces.{sections_pieces}
use Rattle.co_sheet_adapt.proofs.PiecesLemmas.{sections-put-together}
use Rattle.co_sheet_adapt.proofs.pieces.push_sections.Goals as goal

pub returns : goal.returns
returns c =
    let given : map group_view c.as_slice-sections.result.now ≡ all_meant (groups_of (map line_view c.args.lines.now)) = ap (map group_view) c.as_slice-sections.ensures.value ∙ c.in-Ok.ensures in
    subst (λ (gs : List Group). OnOk c.push_groups.result (map piece_view c.push_groups.new.pieces.items ≡ map piece_view c.args.pieces.now.items ++ sections_pieces gs)) given
    (sections-put-together (λ (ps : List Piece). OnOk c.push_groups.result (map piece_view c.push_groups.new.pieces.items ≡ map piece_view c.args.pieces.now.items ++ ps))
    (map group_view c.as_slice-sections.result.now) _ _ _ _ c.in-Ok-of.ensures.own c.in-Ok-of.ensures.names c.in-Ok-of.ensures.values c.in-Ok-of.ensures.pdos c.push_groups.ensures)

use Rattle.std.proofs.Common.{refl, ap, map, ◌++◌, ◌∙◌}
use Rattle.std.specs.List.{filter_map}
use Rattle.std.specs.Option.{option_to_list}
use Rattle.co_sheet.specs.SheetViews.{row_view}
use Rattle.conode_explain_cob_ids.specs.Sheets.{pdo_of}
use Rattle.conode_explain_cob_ids.proofs.Pieces.{all_made, found_first, one_more}
use Rattle.conode_explain_cob_ids.proofs.sheet.add_pdos.Goals as goal

pub loop-row-preserved : goal.loop-row-preserved
loop-row-preserved c =
    let of = pdo_of (map row_view c.args.rows.now) c.args.range in
    one_more (λ rows. filter_map of (map row_view rows)) (λ row. option_to_list (of (row_view row))) (λ row rows. found_first (of (row_view row)) (filter_map of (map row_view rows)))
    c.args.rows.now c.loop-row.row-index _ c.loop-row.pdos.items c.add_pdo.new.pdos.items _ c.loop-row-test.true
    (c.in-Ok.ensures ∙ ap (λ pdo. c.loop-row.pdos.items ++ option_to_list pdo) c.pdo_of.ensures) c.loop-row.invariant

pub returns : goal.returns
returns c =
    let of = pdo_of (map row_view c.args.rows.now) c.args.range in
    all_made (λ rows. filter_map of (map row_view rows)) refl c.args.rows.now c.loop-row.row-index c.loop-row.pdos.items _ c.loop-row-test.false c.loop-row.invariant

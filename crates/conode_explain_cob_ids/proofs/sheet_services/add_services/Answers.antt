use Rattle.std.proofs.Common.{refl, ap, map, ◌++◌, ◌∙◌}
use Rattle.std.specs.List.{filter_map}
use Rattle.std.specs.Option.{option_to_list}
use Rattle.co_sheet.specs.SheetViews.{row_view}
use Rattle.conode_explain_cob_ids.specs.SheetServices.{service_in_row}
use Rattle.conode_explain_cob_ids.proofs.Pieces.{all_made, found_first, one_more}
use Rattle.conode_explain_cob_ids.proofs.sheet_services.add_services.Goals as goal

pub loop-row-preserved : goal.loop-row-preserved
loop-row-preserved c =
    one_more (λ rows. filter_map service_in_row (map row_view rows)) (λ row. option_to_list (service_in_row (row_view row)))
    (λ row rows. found_first (service_in_row (row_view row)) (filter_map service_in_row (map row_view rows))) c.args.rows.now c.loop-row.row-index _
    c.loop-row.services.items c.add_service.new.services.items _ c.loop-row-test.true
    (c.in-Ok.ensures ∙ ap (λ service. c.loop-row.services.items ++ option_to_list service) c.service_in_row.ensures) c.loop-row.invariant

pub returns : goal.returns
returns c =
    all_made (λ rows. filter_map service_in_row (map row_view rows)) refl c.args.rows.now c.loop-row.row-index c.loop-row.services.items _ c.loop-row-test.false
    c.loop-row.invariant

use Rattle.std.proofs.Common.{◌≡◌, ◌++◌, drop, map}
use Rattle.std.specs.List.{filter_map}
use Rattle.co_sheet.specs.SheetViews.{row_view}
use Rattle.conode_explain_cob_ids.specs.SheetServices.{service_in_row}
use Rattle.conode_explain_cob_ids.proofs.sheet_services.add_services.Given as goal

-- those so far, and after them those of the rest
abbrev pub invariant-loop-row : goal.invariant-loop-row
invariant-loop-row l =
    l.services.items ++ filter_map service_in_row (map row_view (drop l.row-index l.rows))
    ≡ l.fn.services.items ++ filter_map service_in_row (map row_view l.rows)

use Rattle.std.proofs.Common.{◌≡◌, ◌++◌, drop, map}
use Rattle.std.specs.List.{filter_map}
use Rattle.co_sheet.specs.SheetViews.{row_view}
use Rattle.conode_explain_cob_ids.specs.Sheets.{pdo_of}
use Rattle.conode_explain_cob_ids.proofs.sheet.add_pdos.Given as goal

-- those so far, and after them those of the rest
abbrev pub invariant-loop-row : goal.invariant-loop-row
invariant-loop-row l =
    l.pdos.items ++ filter_map (pdo_of (map row_view l.rows) l.range) (map row_view (drop l.row-index l.rows))
    ≡ l.fn.pdos.items ++ filter_map (pdo_of (map row_view l.rows) l.range) (map row_view l.rows)

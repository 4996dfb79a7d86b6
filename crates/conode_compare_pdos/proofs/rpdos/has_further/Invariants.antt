use Rattle.std.proofs.Common.{◌≡◌, drop, map}
use Rattle.std.specs.List.{list_any}
use Rattle.co_sheet.specs.SheetViews.{row_view}
use Rattle.conode_compare_pdos.specs.Rpdos.{is_further}
use Rattle.conode_compare_pdos.proofs.rpdos.has_further.Given as goal

-- none of those so far is one
abbrev pub invariant-loop-row : goal.invariant-loop-row
invariant-loop-row l = list_any is_further (map row_view (drop l.row-index l.rows)) ≡ list_any is_further (map row_view l.rows)

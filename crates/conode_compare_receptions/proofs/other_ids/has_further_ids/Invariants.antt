use Rattle.std.proofs.Common.{◌≡◌, drop, map}
use Rattle.co_sheet.specs.SheetViews.{row_view}
use Rattle.conode_compare_receptions.specs.OtherIds.{has_further_ids}
use Rattle.conode_compare_receptions.proofs.other_ids.has_further_ids.Given as goal

-- none of those so far is one
abbrev pub invariant-loop-row : goal.invariant-loop-row
invariant-loop-row l = has_further_ids (map row_view (drop l.row-index l.rows)) ≡ has_further_ids (map row_view l.rows)

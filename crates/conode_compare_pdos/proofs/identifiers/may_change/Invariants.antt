use Rattle.std.proofs.Common.{◌≡◌, drop, map}
use Rattle.co_sheet.specs.SheetViews.{row_view}
use Rattle.conode_compare_pdos.specs.Identifiers.{may_change}
use Rattle.conode_compare_pdos.proofs.identifiers.may_change.Given as goal

-- none of those so far may
abbrev pub invariant-loop-row : goal.invariant-loop-row
invariant-loop-row l = may_change (map row_view (drop l.row-index l.rows)) ≡ may_change (map row_view l.rows)

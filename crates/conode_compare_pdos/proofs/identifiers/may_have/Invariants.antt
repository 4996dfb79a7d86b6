use Rattle.std.proofs.Common.{◌≡◌, drop, map}
use Rattle.co_sheet.specs.SheetViews.{row_view}
use Rattle.conode_compare_pdos.specs.Identifiers.{may_have}
use Rattle.conode_compare_pdos.proofs.identifiers.may_have.Given as goal

-- none of those so far has it
abbrev pub invariant-loop-row : goal.invariant-loop-row
invariant-loop-row l = may_have (map row_view (drop l.row-index l.rows)) l.node l.id ≡ may_have (map row_view l.rows) l.node l.id

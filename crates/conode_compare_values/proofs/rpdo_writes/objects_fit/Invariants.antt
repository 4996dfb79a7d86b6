use Rattle.std.proofs.Common.{◌≡◌, drop, map}
use Rattle.co_sheet.specs.SheetViews.{row_view}
use Rattle.conode_compare_values.specs.RpdoWrites.{fits_from}
use Rattle.conode_compare_values.proofs.rpdo_writes.objects_fit.Given as goal

-- those so far fit, and the bytes of the rest are left
abbrev pub invariant-loop-place : goal.invariant-loop-place
invariant-loop-place l =
    fits_from (map row_view l.rows) l.count l.place (drop l.place l.objects) l.rest ≡ fits_from (map row_view l.rows) l.count 0 l.objects l.bytes

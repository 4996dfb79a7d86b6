-- The room so far, at most 65,535 bytes an entry.
use Rattle.std.proofs.Common.{◌≡◌, ◌*◌, ◌≤◌, take}
use Rattle.std.specs.Prelude.{map, sum_by}
use Rattle.co_sheet.specs.SheetViews.{row_view}
use Rattle.co_dict_build.specs.Capacities.{limits_view, capacity_of}
use Rattle.co_dict_build.proofs.build.room.room.Given as goal

abbrev pub invariant-loop-row : goal.invariant-loop-row
invariant-loop-row l = record {
  so_far : l.room ≡ sum_by (capacity_of (limits_view l.limits)) (map row_view (take l.row-index l.rows));
  bound : l.room ≤ 65535 * l.row-index;
}

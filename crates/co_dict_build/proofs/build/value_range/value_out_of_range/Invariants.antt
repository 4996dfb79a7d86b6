-- What the rest finds is what all rows find.
use Rattle.std.proofs.Common.{◌≡◌, drop}
use Rattle.std.specs.Prelude.{map}
use Rattle.co_sheet.specs.SheetViews.{row_view}
use Rattle.co_dict_build.specs.BuildFaults.{value_out_of_range}
use Rattle.co_dict_build.proofs.build.value_range.value_out_of_range.Given as goal

abbrev pub invariant-loop-row : goal.invariant-loop-row
invariant-loop-row l = value_out_of_range l.node_id (map row_view (drop l.row-index l.rows)) ≡ value_out_of_range l.node_id (map row_view l.rows)

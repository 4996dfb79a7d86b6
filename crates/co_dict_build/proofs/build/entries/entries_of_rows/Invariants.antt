-- The entries of the rows so far.
use Rattle.std.proofs.Common.{◌≡◌, take}
use Rattle.std.specs.Prelude.{map}
use Rattle.co_sheet.specs.SheetViews.{row_view}
use Rattle.co_dict_build.specs.Capacities.{limits_view}
use Rattle.co_dict_build.specs.StoredEntries.{entry_views}
use Rattle.co_dict_build.specs.Built.{entry_of}
use Rattle.co_dict_build.proofs.build.entries.entries_of_rows.Given as goal

abbrev pub invariant-loop-row : goal.invariant-loop-row
invariant-loop-row l = entry_views l.entries.items ≡ map (entry_of l.node_id (limits_view l.limits)) (map row_view (take l.row-index l.rows))

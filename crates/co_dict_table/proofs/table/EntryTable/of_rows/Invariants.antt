-- The entries of the rows so far.
use Rattle.std.proofs.Common.{◌≡◌, take, length}
use Rattle.std.specs.Prelude.{map}
use Rattle.co_sheet.specs.SheetViews.{row_view}
use Rattle.co_sheet_changes.specs.Views.{text_at}
use Rattle.co_dict_build.specs.Capacities.{limits_view}
use Rattle.co_dict_table.specs.Entries.{contents_of_rows}
use Rattle.co_dict_table.specs.Tables.{AreWithin, in_table}
use Rattle.co_dict_table.proofs.table.EntryTable.of_rows.Given as goal

abbrev pub invariant-loop-row : goal.invariant-loop-row
invariant-loop-row l = record {
  entries : in_table l.names.items l.lines.items
      ≡ contents_of_rows (text_at l.originals) (limits_view l.limits) (map row_view (take l.row-index l.rows));
  within : AreWithin (length l.names.items) l.lines.items;
}

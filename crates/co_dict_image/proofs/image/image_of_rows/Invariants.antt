-- The slots of the rows so far are one after another, and their entries are those of the rows.
use Rattle.std.proofs.Common.{◌≡◌, true, take, length}
use Rattle.std.specs.Prelude.{map}
use Rattle.co_sheet.specs.SheetViews.{row_view}
use Rattle.co_value.specs.Numbers.{AreBytes}
use Rattle.co_dict_build.specs.Capacities.{limits_view}
use Rattle.co_dict_build.specs.Built.{entry_of}
use Rattle.co_dict_image.specs.Slots.{entries_in, are_lined}
use Rattle.co_dict_image.proofs.image.image_of_rows.Given as goal

abbrev pub invariant-loop-row : goal.invariant-loop-row
invariant-loop-row l =
    record {
      entries : entries_in l.bytes.items l.bytes.items l.slots.items ≡ map (entry_of l.node_id (limits_view l.limits)) (map row_view (take l.row-index l.rows));
      lined : are_lined 0 l.slots.items (length l.bytes.items) ≡ true;
      bytes : AreBytes l.bytes.items;
    }

use Rattle.std.proofs.Common.{◌≡◌, ◌++◌, map, drop}
use Rattle.co_sheet.specs.SheetViews.{row_view}
use Rattle.co_dict_faults.specs.SoundPlans.{sums_outside}
use Rattle.co_dict_faults.proofs.sound_rows.sums_outside.Given as goal

-- those so far, and after them those of the rest
abbrev pub invariant-loop-row : goal.invariant-loop-row
invariant-loop-row l = l.keys.items ++ sums_outside l.node_id (map row_view (drop l.row-index l.rows)) ≡ sums_outside l.node_id (map row_view l.rows)

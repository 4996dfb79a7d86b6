use Rattle.std.proofs.Common.{◌≡◌, map, take}
use Rattle.co_sheet.specs.SheetViews.{row_view}
use Rattle.co_dict_faults.specs.SoundPlans.{sound_row}
use Rattle.co_dict_faults.proofs.sound_rows.sound_rows.Given as goal

abbrev pub invariant-loop-row : goal.invariant-loop-row
invariant-loop-row l = map row_view l.sound.items ≡ map (sound_row l.node_id) (map row_view (take l.row-index l.rows))

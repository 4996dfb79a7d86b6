use Rattle.std.proofs.Common.{List, refl, sym, ◌∙◌, map}
use Rattle.co_sheet_rows.specs.declared.entry.EntryRow.{EntryRow}
use Rattle.co_sheet.specs.SheetViews.{row_view}
use Rattle.co_dict_build.specs.BuildFaults.{is_sum_outside}
use Rattle.co_dict_faults.specs.SoundPlans.{sums_outside}
use Rattle.co_dict_faults.proofs.PieceLemmas.{kept-turn, passed-turn, pieces-end}
use Rattle.co_dict_faults.proofs.sound_rows.sums_outside.Goals.{then-is_sum_outside+in-Ok, else-is_sum_outside}
use Rattle.co_dict_faults.proofs.sound_rows.sums_outside.Goals as goal

pub loop-row-preserved : goal.loop-row-preserved
loop-row-preserved c =
    let node = c.args.node_id in
    let sums = λ (rows : List EntryRow). sums_outside node (map row_view rows) in
    let is_outside = λ (row : EntryRow). is_sum_outside node (row_view row) (row_view row).default in
    elim c.if-is_sum_outside.branch [
      | then-is_sum_outside+in-Ok w ↦
          rw w.keys-is (kept-turn sums is_outside (λ row. row.key) (λ row rows. refl) c.args.rows.now c.loop-row.row-index _ (sym c.is_sum_outside.ensures ∙ w.if-is_sum_outside.true)
          c.loop-row.keys.items w.push.new.self.items _ c.loop-row-test.true w.in-Ok.ensures.items c.loop-row.invariant)
      | else-is_sum_outside w ↦
          rw w.keys-is (passed-turn sums is_outside (λ row. row.key) (λ row rows. refl) c.args.rows.now c.loop-row.row-index _ (sym c.is_sum_outside.ensures ∙ w.if-is_sum_outside.false)
          c.loop-row.keys.items _ c.loop-row-test.true c.loop-row.invariant)
    ]

pub returns : goal.returns
returns c =
    pieces-end (λ (rows : List EntryRow). sums_outside c.args.node_id (map row_view rows)) refl c.args.rows.now c.loop-row.row-index _ _ c.loop-row-test.false c.loop-row.invariant

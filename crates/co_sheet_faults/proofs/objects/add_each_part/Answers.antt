use Rattle.co_sheet.specs.SectionViews.{entry_view}
use Rattle.co_sheet_faults.specs.private.Collected.{part_collected}
use Rattle.co_sheet_faults.proofs.ListCodeLemmas.{added-end, added-turn}
use Rattle.co_sheet_faults.proofs.objects.add_each_part.Goals as goal

pub loop-part-preserved : goal.loop-part-preserved
loop-part-preserved c =
    added-turn entry_view (part_collected c.args.is_entry) c.args.parts.now c.loop-part.part-index _ _ _ _ c.loop-part-test.true c.in-Ok.ensures c.loop-part.invariant

pub returns : goal.returns
returns c = added-end entry_view (part_collected c.args.is_entry) c.args.parts.now c.loop-part.part-index _ _ c.loop-part-test.false c.loop-part.invariant

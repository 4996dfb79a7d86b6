use Rattle.co_sheet_text.specs.Views.{property_view}
use Rattle.co_sheet.specs.Checks.{unread_number}
use Rattle.co_sheet_faults.proofs.ListCodeLemmas.{added-end, added-turn}
use Rattle.co_sheet_faults.proofs.lists.add_unread_numbers.Goals as goal

pub loop-given-preserved : goal.loop-given-preserved
loop-given-preserved c =
    added-turn property_view unread_number c.args.properties.now c.loop-given.given-index _ _ _ _ c.loop-given-test.true c.in-Ok.ensures c.loop-given.invariant

pub returns : goal.returns
returns c = added-end property_view unread_number c.args.properties.now c.loop-given.given-index _ _ c.loop-given-test.false c.loop-given.invariant

-- Those so far, and one more.
use Rattle.std.proofs.Common.{take_all}
use Rattle.co_sheet_changes.specs.Views.{text_at}
use Rattle.co_sheet_text.specs.Views.{section_view}
use Rattle.conode_show.specs.Retyped.{retyped_view}
use Rattle.conode_show.specs.Shown.{retyped}
use Rattle.conode_show.proofs.RetypedLemmas.{made_more}
use Rattle.conode_show.proofs.retyped.all_retyped.Goals as goal

pub loop-section-preserved : goal.loop-section-preserved
loop-section-preserved c =
    made_more retyped_view (retyped (text_at c.args.originals.now)) section_view c.args.sections.now c.loop-section.section-index _ _ _
    c.loop-section-test.true c.loop-section.invariant c.in-Ok.ensures

pub returns : goal.returns
returns c = rw (take_all c.loop-section.section-index c.args.sections.now c.loop-section-test.false) at c.loop-section.invariant

use Rattle.std.proofs.Common.{ap, ◌∙◌}
use Rattle.co_sheet.specs.SectionViews.{entry_view}
use Rattle.co_sheet.specs.private.Findings.{sooner}
use Rattle.co_sheet.specs.private.ObjectReadings.{part_finding}
use Rattle.co_sheet.proofs.FindingLemmas.{soonest-turn, soonest-end}
use Rattle.co_sheet.proofs.checks.objects.parts_finding.Goals as goal

pub loop-part-preserved : goal.loop-part-preserved
loop-part-preserved c =
    soonest-turn entry_view part_finding c.args.parts.now c.loop-part.part-index _ c.loop-part.first c.sooner-first.result c.loop-part-test.true
    (c.sooner-first.ensures ∙ ap (sooner c.loop-part.first) c.type_finding.ensures) c.loop-part.invariant

pub returns : goal.returns
returns c = soonest-end entry_view part_finding c.args.parts.now c.loop-part.part-index c.loop-part.first c.loop-part-test.false c.loop-part.invariant

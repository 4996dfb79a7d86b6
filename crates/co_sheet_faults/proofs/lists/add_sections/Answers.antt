use Rattle.std.proofs.Common.{ap, ◌||◌}
use Rattle.co_sheet_text.specs.Views.{section_view}
use Rattle.co_sheet.specs.Listings.{named_by}
use Rattle.co_sheet_faults.specs.private.Collected.{section_collected}
use Rattle.co_sheet_faults.specs.private.ListParts.{is_list_at_fault}
use Rattle.co_sheet_faults.proofs.ListCodeLemmas.{added-end, added-turn, any-end, any-turn}
use Rattle.co_sheet_faults.proofs.lists.add_sections.Goals as goal

pub loop-section-preserved : goal.loop-section-preserved
loop-section-preserved c =
    let sections = c.args.sections.now in
    let i = c.loop-section.section-index in
    record {
      found = added-turn section_view section_collected sections i _ _ _ _ c.loop-section-test.true c.in-Ok.ensures.found c.loop-section.invariant.found;
      named = added-turn section_view named_by sections i _ _ _ _ c.loop-section-test.true c.in-Ok.ensures.named c.loop-section.invariant.named;
      bad = any-turn section_view is_list_at_fault sections i _ c.loop-section.is_bad _ _ c.loop-section-test.true (ap (λ b. c.loop-section.is_bad || b) c.in-Ok.ensures.bad) c.loop-section.invariant.bad;
    }

pub returns-clause-found : goal.returns-clause-found
returns-clause-found c = added-end section_view section_collected c.args.sections.now c.loop-section.section-index _ _ c.loop-section-test.false c.loop-section.invariant.found

pub returns-clause-named : goal.returns-clause-named
returns-clause-named c = added-end section_view named_by c.args.sections.now c.loop-section.section-index _ _ c.loop-section-test.false c.loop-section.invariant.named

pub returns-clause-bad : goal.returns-clause-bad
returns-clause-bad c = any-end section_view is_list_at_fault c.args.sections.now c.loop-section.section-index c.loop-section.is_bad _ c.loop-section-test.false c.loop-section.invariant.bad

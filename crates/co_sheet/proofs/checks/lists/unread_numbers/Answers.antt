use Rattle.std.proofs.Common.{◌∙◌}
use Rattle.co_sheet.specs.Checks.{unread_number}
use Rattle.co_sheet_text.specs.Views.{property_view}
use Rattle.co_sheet.proofs.LeastLemmas.{least-turn, least-end, least-views}
use Rattle.co_sheet.proofs.checks.lists.unread_numbers.Goals as goal

pub loop-given-preserved : goal.loop-given-preserved
loop-given-preserved c =
    rw c.earlier-least.ensures
    (least-turn (λ k. unread_number (property_view k)) c.args.section.now.properties.now c.loop-given.given-index _ c.loop-given.least c.err.result c.loop-given-test.true
    (c.err.ensures.value ∙ c.number_of.ensures.fault) c.loop-given.invariant)

pub returns : goal.returns
returns c =
    let items = c.args.section.now.properties.now in
    least-views property_view unread_number items c.loop-given.least
    (least-end (λ k. unread_number (property_view k)) items c.loop-given.given-index c.loop-given.least c.loop-given-test.false c.loop-given.invariant)

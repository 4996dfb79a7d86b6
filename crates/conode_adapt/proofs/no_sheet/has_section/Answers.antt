use Rattle.std.proofs.lemmas.List.{drop_all}
use Rattle.conode_adapt.proofs.no_sheet.has_section.Goals as goal

pub returns : goal.returns
returns c = rw (drop_all c.loop-section.section-index c.args.sections.now c.loop-section-test.false) at c.loop-section.invariant

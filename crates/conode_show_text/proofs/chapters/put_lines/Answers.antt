-- The lines so far, and those of one more section.
use Rattle.std.proofs.Common.{map, take_all}
use Rattle.co_sheet_text.specs.Views.{section_view}
use Rattle.conode_text.proofs.Appending.{nothing}
use Rattle.conode_json.proofs.DocumentLaws.{one_more_view}
use Rattle.conode_show_text.specs.Document.{chapter_text}
use Rattle.conode_show_text.proofs.chapters.put_lines.Goals as goal

pub loop-section-init : goal.loop-section-init
loop-section-init c = nothing _

pub loop-section-preserved : goal.loop-section-preserved
loop-section-preserved c =
    one_more_view (chapter_text c.args.chapter c.args.format c.args.node (map section_view c.args.sections.now)) section_view c.args.sections.now c.loop-section.section-index _
    c.loop-section-test.true c.loop-section.invariant c.put_text.ensures

pub returns : goal.returns
returns c = rw (take_all c.loop-section.section-index c.args.sections.now c.loop-section-test.false) at c.loop-section.invariant

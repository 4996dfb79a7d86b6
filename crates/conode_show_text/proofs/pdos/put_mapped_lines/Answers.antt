-- The lines so far, and that of one more section.
use Rattle.std.proofs.Common.{map, take_all}
use Rattle.co_sheet_text.specs.Views.{section_view}
use Rattle.conode_text.proofs.Appending.{nothing}
use Rattle.conode_json.proofs.DocumentLaws.{one_more_view}
use Rattle.conode_show_text.specs.Pdos.{counted_line, mapped_lines}
use Rattle.conode_show_text.proofs.pdos.put_mapped_lines.Goals as goal

pub loop-section-init : goal.loop-section-init
loop-section-init c = nothing _

pub loop-section-preserved : goal.loop-section-preserved
loop-section-preserved c =
    one_more_view (counted_line c.args.format c.args.node (map section_view c.args.sections.now) c.args.index c.mapping_count-count.result) section_view c.args.sections.now c.loop-section.section-index _
    c.loop-section-test.true c.loop-section.invariant c.put_if_counted.ensures

pub returns : goal.returns
unfolding mapped_lines
returns c = rw (← c.mapping_count-count.ensures) (rw (take_all c.loop-section.section-index c.args.sections.now c.loop-section-test.false) at c.loop-section.invariant)

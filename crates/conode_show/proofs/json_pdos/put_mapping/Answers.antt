-- The tokens so far, and those of one more section.
use Rattle.std.proofs.Common.{map, take_all}
use Rattle.co_sheet_text.specs.Views.{section_view}
use Rattle.conode_show.specs.JsonForm.{counted_tokens, mapping_tokens}
use Rattle.conode_json.proofs.DocumentLaws.{one_more_view}
use Rattle.conode_text.proofs.Appending.{nothing}
use Rattle.conode_show.proofs.json_pdos.put_mapping.Goals as goal

pub loop-section-init : goal.loop-section-init
loop-section-init c = nothing _

pub loop-section-preserved : goal.loop-section-preserved
loop-section-preserved c =
    one_more_view (counted_tokens c.args.node (map section_view c.args.sections.now) c.args.index c.mapping_count-count.result) section_view c.args.sections.now c.loop-section.section-index _
    c.loop-section-test.true c.loop-section.invariant c.put_if_counted.ensures

pub returns : goal.returns
unfolding mapping_tokens
returns c = rw (← c.mapping_count-count.ensures) (rw (take_all c.loop-section.section-index c.args.sections.now c.loop-section-test.false) at c.loop-section.invariant)

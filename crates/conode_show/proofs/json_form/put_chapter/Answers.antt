-- The name, the elements, and the end.
use Rattle.std.proofs.Common.{map, take_all}
use Rattle.co_sheet_text.specs.Views.{section_view}
use Rattle.conode_json.specs.Members.{array_begin}
use Rattle.conode_show.specs.JsonForm.{chapter_member, chapter_tokens}
use Rattle.conode_json.proofs.DocumentLaws.{one_more_view}
use Rattle.conode_text.proofs.Appending.{both, nothing}
use Rattle.conode_show.proofs.json_form.put_chapter.Goals as goal

pub loop-section-init : goal.loop-section-init
loop-section-init c = nothing _

pub loop-section-preserved : goal.loop-section-preserved
loop-section-preserved c =
    one_more_view (chapter_tokens c.args.chapter c.args.node (map section_view c.args.sections.now)) section_view c.args.sections.now c.loop-section.section-index _
    c.loop-section-test.true c.loop-section.invariant c.put_tokens.ensures

pub returns : goal.returns
unfolding chapter_member array_begin
returns c =
    both (both (rw c.chapter_of.ensures at c.put.ensures) (rw (take_all c.loop-section.section-index c.args.sections.now c.loop-section-test.false) at c.loop-section.invariant)) c.put-2.ensures

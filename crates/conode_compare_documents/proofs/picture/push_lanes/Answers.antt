-- One part after another.
use Rattle.std.proofs.Common.{◌≡◌, ◌∙◌, ap}
use Rattle.conode_compare_report.specs.Spans.{LanesView}
use Rattle.conode_compare_documents.specs.Picture.{lanes_picture}
use Rattle.conode_json.proofs.Appending.{both}
use Rattle.conode_compare_documents.proofs.picture.push_lanes.Goals as goal

pub returns : goal.returns
unfolding lanes_picture
returns c =
    let bins : c.as_slice-bins.result.now ≡ c.args.lanes.now.bins = c.as_slice-bins.ensures.value ∙ ap (λ (lanes : LanesView). lanes.bins) c.lanes.view_is in
    both (both (both (rw bins at c.push_differences_lane.ensures) (rw bins at c.push_states.ensures)) (rw bins at c.push_frame_lanes.ensures))
    (rw c.quarter_of.ensures.value at c.push_axis.ensures)

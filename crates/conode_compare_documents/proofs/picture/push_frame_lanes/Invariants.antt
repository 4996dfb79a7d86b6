use Rattle.std.proofs.Common.{take}
use Rattle.std.specs.List.{flat_map}
use Rattle.conode_json.specs.Appended.{Appended}
use Rattle.conode_compare_documents.specs.Picture.{frames_lane}
use Rattle.conode_compare_documents.proofs.picture.push_frame_lanes.Given as goal

abbrev pub invariant-loop-lane : goal.invariant-loop-lane
invariant-loop-lane l = Appended l.fn.page (flat_map (frames_lane l.bins) (take l.lane-index l.lanes)) l.page

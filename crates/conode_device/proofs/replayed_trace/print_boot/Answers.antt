use Rattle.std.proofs.Common.{◌≡◌, List, [], ◌∷◌, ap, map, rules, ◌∙◌}
use Rattle.conode_trace.specs.Printed.{frame_line}
use Rattle.co_frame.specs.FrameContent.{FrameContent}
use Rattle.conode_device.specs.Lines.{boot_line}
use Rattle.conode_device.proofs.Inputs.{after_by}
use Rattle.conode_device.proofs.replayed_trace.print_boot.Goals as goal

pub returns : goal.returns
returns g c =
    let same : c.as_slice.result.now ≡ c.boot.new.outbox.items = search rules in
    after_by (g.W.Write.contents c.args.writer.now) (g.W.Write.contents c.print_frames.new.writer) c.args.node.now (map (frame_line 0) c.as_slice.result.now) (λ k before. boot_line k ∷ [])
    (λ k before stands. ap (λ (sent : List FrameContent). map (frame_line 0) sent) (same ∙ c.boot.ensures k before stands)) c.print_frames.result c.print_frames.ensures

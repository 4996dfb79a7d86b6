use Rattle.std.proofs.Common.{◌≡◌, ap, ◌∙◌, rules, subst}
use Rattle.conode_trace.specs.Printed.{frame_line}
use Rattle.conode_io.specs.Written.{AppendsFront, WritesFront}
use Rattle.conode_io.proofs.WriteLemmas.{front_of_lines}
use Rattle.conode_device.specs.Printed.{frame_lines}
use Rattle.conode_device.proofs.Writings.{frames_failed}
use Rattle.conode_device.proofs.frames.write_frames.Goals as goal

pub returns-in_err-hand_over-clause-front : goal.returns-in_err-hand_over-clause-front
returns-in_err-hand_over-clause-front g c =
    let mid = g.W.Write.contents c.loop-frame.writer in
    let new = g.W.Write.contents c.hand_over.new.writer in
    let frames = c.args.frames.now in
    let index = c.loop-frame.frame-index in
    let frame = c.frame-item.result in
    let line : c.as_slice.result.now ≡ frame_line 0 frame = search rules in
    frames_failed c.from_residual.result (WritesFront (g.W.Write.contents c.args.writer.now) new (frame_lines frames))
    (front_of_lines (g.W.Write.contents c.args.writer.now) mid new (frame_line 0) frames index frame c.loop-frame-test.true c.loop-frame.invariant
    (subst (AppendsFront mid new) (line ∙ ap (frame_line 0) c.frame-item.is) c.in_err-hand_over.ensures.front))

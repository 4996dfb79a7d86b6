use Rattle.std.proofs.Common.{◌≡◌, Err, get_or, map, rules, subst, ap, ◌∙◌}
use Rattle.std.proofs.lemmas.Result.{err_from_is_err_and}
use Rattle.conode_trace.specs.Printed.{frame_line}
use Rattle.conode_io.specs.declared.fault.CmdFault.{CmdFault}
use Rattle.conode_io.specs.Written.{AppendsFront}
use Rattle.conode_io.proofs.WriteLemmas.{front_of_lines}
use Rattle.conode_device.proofs.Inputs.{front_by}
use Rattle.conode_device.proofs.lines.print_frames.Goals as goal

pub returns-in_err-hand_over : goal.returns-in_err-hand_over
returns-in_err-hand_over g c =
    let old = g.W.Write.contents c.args.writer.now in
    let mid = g.W.Write.contents c.loop-frame.writer in
    let new = g.W.Write.contents c.hand_over.new.writer in
    let frames = c.args.frames.now in
    let index = c.loop-frame.frame-index in
    let sent = c.frame-item.result in
    let made : c.as_slice.result.now ≡ frame_line c.args.ms sent = search rules in
    let same : c.as_slice.result.now ≡ frame_line c.args.ms (get_or frames index sent) = made ∙ ap (frame_line c.args.ms) c.frame-item.is in
    let passed = err_from_is_err_and c.from_residual.result c.from_residual.ensures.1 in
    front_by old new (map (frame_line c.args.ms) frames) c.from_residual.result (passed.1 ∙ ap (λ (e : CmdFault). Err e) (passed.2 ∙ c.in_err-hand_over.ensures.fault))
    (front_of_lines old mid new (frame_line c.args.ms) frames index sent c.loop-frame-test.true c.loop-frame.invariant
    (subst (AppendsFront mid new) same c.in_err-hand_over.ensures.front))

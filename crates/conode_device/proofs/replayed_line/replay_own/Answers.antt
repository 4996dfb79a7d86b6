use Rattle.std.proofs.Common.{◌≡◌, ◌++◌, List, Err, true, false, ap, map, subst, ◌∙◌, rules}
use Rattle.std.proofs.lemmas.Result.{err_from_is_err_and}
use Rattle.conode_io.specs.declared.fault.CmdFault.{CmdFault}
use Rattle.conode_io.specs.Written.{WritesLines}
use Rattle.conode_trace.specs.Printed.{frame_line}
use Rattle.co_frame.specs.FrameContent.{FrameContent}
use Rattle.conode_device.specs.Lines.{refused_lines}
use Rattle.conode_device.specs.Runs.{TookOwn, WrittenBy}
use Rattle.conode_device.proofs.Inputs.{own_breaks, own_none, own_printed}
use Rattle.conode_device.proofs.replayed_line.replay_own.Goals as goal

pub returns-then-not-taken-clause-printed : goal.returns-then-not-taken-clause-printed
returns-then-not-taken-clause-printed g c =
    let none : c.take_own-taken.result ≡ false = search rules in
    own_none c.args.node.now c.take_own-taken.new.node (g.W.Write.contents c.args.writer.now) c.args.timed.now
    (subst (TookOwn c.args.node.now c.take_own-taken.new.node c.args.timed.now.said c.take_own-taken.new.sent.items) none c.take_own-taken.ensures)

pub returns-in_err-print_input-clause-printed : goal.returns-in_err-print_input-clause-printed
returns-in_err-print_input-clause-printed g c =
    let t = c.args.timed.now in
    let old = g.W.Write.contents c.args.writer.now in
    let new = g.W.Write.contents c.print_input.new.writer in
    let fault = c.in_err-print_input.field-0.0 in
    let taken : c.take_own-taken.result ≡ true = search rules in
    let same : c.as_slice.result.now ≡ c.take_own-taken.new.sent.items = search rules in
    let passed = err_from_is_err_and c.from_residual.result c.from_residual.ensures.1 in
    own_breaks c.args.node.now c.take_own-taken.new.node old new t c.take_own-taken.new.sent.items c.last_app.result
    (subst (TookOwn c.args.node.now c.take_own-taken.new.node t.said c.take_own-taken.new.sent.items) taken c.take_own-taken.ensures) c.last_app.ensures
    fault c.from_residual.result (passed.1 ∙ ap (λ (e : CmdFault). Err e) passed.2)
    (subst (λ (sent : List FrameContent). WrittenBy old new (refused_lines t.number c.last_app.result ++ map (frame_line t.ms) sent) (Err fault)) same c.in_err-print_input.ensures)

pub returns-clause-printed : goal.returns-clause-printed
returns-clause-printed g c =
    let t = c.args.timed.now in
    let old = g.W.Write.contents c.args.writer.now in
    let new = g.W.Write.contents c.print_input.new.writer in
    let taken : c.take_own-taken.result ≡ true = search rules in
    let same : c.as_slice.result.now ≡ c.take_own-taken.new.sent.items = search rules in
    own_printed c.args.node.now c.take_own-taken.new.node old new t c.take_own-taken.new.sent.items c.last_app.result
    (subst (TookOwn c.args.node.now c.take_own-taken.new.node t.said c.take_own-taken.new.sent.items) taken c.take_own-taken.ensures) c.last_app.ensures c.len.result
    (subst (λ (sent : List FrameContent). WritesLines old new (refused_lines t.number c.last_app.result ++ map (frame_line t.ms) sent)) same c.in_ok-print_input.ensures) c.len.ensures.value

use Rattle.std.proofs.Common.{Err, ap, arith, ◌∙◌}
use Rattle.std.proofs.lemmas.Result.{err_from_is_err_and}
use Rattle.conode_io.specs.declared.fault.CmdFault.{CmdFault}
use Rattle.conode_trace.specs.Traces.{ticks_after}
use Rattle.conode_device.specs.Lines.{own_inputs}
use Rattle.conode_device.proofs.Inputs.{break_after, break_later, printed_both}
use Rattle.conode_device.proofs.replayed_line.replay_line.Goals as goal

pub returns-in_err-ticked-clause-printed : goal.returns-in_err-ticked-clause-printed
returns-in_err-ticked-clause-printed g c =
    let t = c.args.timed.now in
    let passed = err_from_is_err_and c.from_residual.result c.from_residual.ensures.1 in
    break_later c.args.node.now c.replay_ticks.new.node (g.W.Write.contents c.args.writer.now) (g.W.Write.contents c.replay_ticks.new.writer) (ticks_after t.number t.before t.ticks) (own_inputs t)
    c.in_err-ticked.field-0.0 c.from_residual.result (passed.1 ∙ ap (λ (e : CmdFault). Err e) passed.2) c.in_err-ticked.ensures.printed

pub returns-in_err-own-clause-printed : goal.returns-in_err-own-clause-printed
returns-in_err-own-clause-printed g c =
    let t = c.args.timed.now in
    let passed = err_from_is_err_and c.from_residual-in_err-own.result c.from_residual-in_err-own.ensures.1 in
    break_after c.args.node.now c.replay_ticks.new.node c.replay_own.new.node (g.W.Write.contents c.args.writer.now) (g.W.Write.contents c.replay_ticks.new.writer) (g.W.Write.contents c.replay_own.new.writer)
    (ticks_after t.number t.before t.ticks) (own_inputs t) c.in_ok-ticked.ticked c.in_ok-ticked.ensures.printed
    c.in_err-own.field-0.0 c.from_residual-in_err-own.result (passed.1 ∙ ap (λ (e : CmdFault). Err e) passed.2) c.in_err-own.ensures.printed

pub returns-clause-printed : goal.returns-clause-printed
returns-clause-printed g c =
    let t = c.args.timed.now in
    printed_both c.args.node.now c.replay_ticks.new.node c.replay_own.new.node (g.W.Write.contents c.args.writer.now) (g.W.Write.contents c.replay_ticks.new.writer) (g.W.Write.contents c.replay_own.new.writer)
    (ticks_after t.number t.before t.ticks) (own_inputs t) c.in_ok-ticked.ticked c.in_ok-ticked.ensures.printed c.in_ok-own.own c.in_ok-own.ensures.printed

pub overflow_add-result : goal.overflow_add-result
overflow_add-result g c = omega (arith, c.in_ok-ticked.ensures.few, c.in_ok-own.ensures.few)

use Rattle.std.proofs.Common.{Err, ap, arith, ◌∙◌}
use Rattle.std.proofs.lemmas.Result.{err_from_is_err_and}
use Rattle.conode_io.specs.declared.fault.CmdFault.{CmdFault}
use Rattle.conode_trace.specs.Traces.{ticks_after}
use Rattle.conode_device.proofs.Inputs.{printed_none, printed_tick, printed_ticks, ticks_break}
use Rattle.conode_device.proofs.replayed_line.replay_ticks.Goals as goal

pub loop-elapsed-init : goal.loop-elapsed-init
unfolding ticks_after
loop-elapsed-init g c = record {
  printed = λ k before stands. printed_none k before (g.W.Write.contents c.args.writer.now) c.args.node.now stands;
  few = omega arith;
}

pub loop-elapsed-preserved : goal.loop-elapsed-preserved
loop-elapsed-preserved g c =
    record {
      printed = λ k before stands.
          printed_tick k before (g.W.Write.contents c.args.writer.now) (g.W.Write.contents c.loop-elapsed.writer) (g.W.Write.contents c.tick.new.writer) c.loop-elapsed.node c.tick.new.node
          c.loop-elapsed.printed c.args.timed.now.number c.args.timed.now.before c.loop-elapsed.elapsed c.clock_after-ms.result c.clock_after-ms.ensures (c.loop-elapsed.invariant.printed k before stands) c.tick.ensures.stands
          c.tick.new.sent.items c.len.result c.tick.ensures.frames c.in_ok-tick.ensures.written c.len.ensures.value;
      few = omega (arith, c.loop-elapsed.invariant.few, c.len.ensures.fits);
    }

pub returns-in_err-tick-clause-printed : goal.returns-in_err-tick-clause-printed
returns-in_err-tick-clause-printed g c =
    let passed = err_from_is_err_and c.from_residual.result c.from_residual.ensures.1 in
    ticks_break c.args.node.now c.loop-elapsed.node c.tick.new.node (g.W.Write.contents c.args.writer.now) (g.W.Write.contents c.loop-elapsed.writer) (g.W.Write.contents c.tick.new.writer)
    c.loop-elapsed.printed c.args.timed.now.number c.args.timed.now.before c.loop-elapsed.elapsed c.clock_after-ms.result c.clock_after-ms.ensures c.loop-elapsed.invariant.printed c.tick.ensures.stands
    c.args.timed.now.ticks c.loop-elapsed-test.true c.in_err-tick.field-0.0 c.from_residual.result (passed.1 ∙ ap (λ (e : CmdFault). Err e) passed.2) c.in_err-tick.ensures.written

pub returns-clause-printed : goal.returns-clause-printed
returns-clause-printed g c = λ k before stands.
    printed_ticks k before (g.W.Write.contents c.args.writer.now) (g.W.Write.contents c.loop-elapsed.writer) c.loop-elapsed.node
    c.loop-elapsed.printed c.args.timed.now.number c.args.timed.now.before c.loop-elapsed.elapsed c.args.timed.now.ticks
    c.loop-elapsed.auto.elapsed-end c.loop-elapsed-test.false (c.loop-elapsed.invariant.printed k before stands)

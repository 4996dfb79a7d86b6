use Rattle.std.proofs.Common.{◌*◌, ◌≤◌}
use Rattle.conode_trace.specs.Traces.{ticks_after}
use Rattle.conode_device.specs.Runs.{AfterAny, HasPrinted}
use Rattle.conode_device.proofs.replayed_line.replay_ticks.Given as goal

abbrev pub invariant-loop-elapsed : goal.invariant-loop-elapsed
invariant-loop-elapsed g l = record {
  printed : AfterAny l.fn.node (λ k before.
      HasPrinted k before (g.W.Write.contents l.fn.writer) (g.W.Write.contents l.writer) l.node l.printed (ticks_after l.timed.number l.timed.before l.elapsed));
  few : l.printed ≤ 514 * l.elapsed;
}

use Rattle.std.proofs.Common.{◌-◌, ◌≡◌, ◌≤◌}
use Rattle.conode_io.specs.Written.{WritesLines}
use Rattle.co_node_model.specs.Loop.{Loop, BothEnds, frames_in, rounds}
use Rattle.conode_device.specs.Printed.{frame_lines}
use Rattle.conode_device.specs.Standing.{EndsStand}
use Rattle.conode_device.proofs.rounds.all_rounds.Given as goal

-- after the rounds so far
abbrev pub invariant-loop-done : goal.invariant-loop-done
invariant-loop-done g l = record {
  most : l.most ≡ 20000;
  within : l.done ≤ 20000;
  ends : (lp : Loop) (e : BothEnds) → EndsStand lp e l.fn.node l.fn.client l.fn.waiting.items →
      EndsStand lp (rounds l.done lp e) l.node l.client l.waiting.items;
  written : (lp : Loop) (e : BothEnds) → EndsStand lp e l.fn.node l.fn.client l.fn.waiting.items →
      WritesLines (g.W.Write.contents l.fn.writer) (g.W.Write.contents l.writer) (frame_lines (frames_in l.done lp e));
}

abbrev pub decreases-loop-done : goal.decreases-loop-done
decreases-loop-done g l = l.most - l.done

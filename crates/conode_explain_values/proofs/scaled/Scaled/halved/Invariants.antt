use Rattle.std.proofs.Common.{◌≡◌, ◌*◌, ◌^◌, ◌<◌, ◌≤◌}
use Rattle.conode_explain_values.specs.Reals.{halved}
use Rattle.conode_explain_values.proofs.scaled.Scaled.halved.Given as goal

-- what is left of the number gives what all give
abbrev pub invariant-loop-left : goal.invariant-loop-left
invariant-loop-left l = record {
  halved : halved l.left l.number ≡ halved l.count l.fn.self;
  room : l.number.digits < 5 * 2 ^ 125;
  tens : l.left ≤ l.number.tens;
  few : l.number.tens ≤ l.fn.self.tens;
}

abbrev pub decreases-loop-left : goal.decreases-loop-left
decreases-loop-left l = l.left

use Rattle.std.proofs.Common.{◌≡◌, ◌+◌, ◌*◌, ◌^◌, ◌<◌, ◌≤◌}
use Rattle.conode_explain_values.specs.Reals.{doubled}
use Rattle.conode_explain_values.proofs.scaled.Scaled.doubled.Given as goal

-- what is left of the number gives what all give
abbrev pub invariant-loop-left : goal.invariant-loop-left
invariant-loop-left l = record {
  doubled : doubled l.left l.number ≡ doubled l.count l.fn.self;
  room : l.number.digits < 5 * 2 ^ 125;
  tens : l.number.tens + l.left ≤ l.fn.self.tens + l.count;
}

abbrev pub decreases-loop-left : goal.decreases-loop-left
decreases-loop-left l = l.left

-- What the steps that are left give is what all give.
use Rattle.std.proofs.Common.{◌≡◌}
use Rattle.conode_compare_report.specs.Spans.{widened}
use Rattle.conode_compare_report.proofs.lanes.Lanes.widen.Given as goal

abbrev pub invariant-loop-steps : goal.invariant-loop-steps
invariant-loop-steps l = widened l.steps l.passed l.self ≡ widened 64 l.passed l.fn.self

abbrev pub decreases-loop-steps : goal.decreases-loop-steps
decreases-loop-steps l = l.steps

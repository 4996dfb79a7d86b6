use Rattle.std.proofs.Common.{◌≤◌, IfSome, length}
use Rattle.conode_stats.proofs.bit_rate.bit_rate_in.Given as goal

abbrev pub invariant-loop-line : goal.invariant-loop-line
invariant-loop-line l = IfSome l.found (λ rate. rate ≤ 1000000)

abbrev pub decreases-loop-line : goal.decreases-loop-line
decreases-loop-line l = length l.rest

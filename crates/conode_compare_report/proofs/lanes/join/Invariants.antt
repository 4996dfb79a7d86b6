-- What is joined at the beginning, and what the spans that are left give, is what all give.
use Rattle.std.proofs.Common.{◌≡◌, ◌++◌, ◌-◌, ◌≤◌, length, take, drop}
use Rattle.conode_compare_report.specs.Spans.{joined}
use Rattle.conode_compare_report.proofs.lanes.join.Given as goal

abbrev pub invariant-pairs : goal.invariant-pairs
invariant-pairs l = record {
  order : l.count ≤ l.next;
  within : l.next ≤ length l.bins;
  so_far : take l.count l.bins ++ joined (drop l.next l.bins) ≡ joined l.fn.bins;
}

abbrev pub decreases-pairs : goal.decreases-pairs
decreases-pairs l = length l.initial.bins - l.next

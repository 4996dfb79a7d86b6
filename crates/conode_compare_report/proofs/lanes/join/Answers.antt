-- One pair more, one span that is left, and none.
use Rattle.std.proofs.Common.{arith, length-set}
use Rattle.conode_compare_report.specs.Spans.{empty_bin}
use Rattle.conode_compare_report.proofs.SpanLemmas.{all_joined, last_joined, two_joined}
use Rattle.conode_compare_report.proofs.lanes.join.Goals as goal

pub pairs-preserved : goal.pairs-preserved
pairs-preserved c = record {
  order = omega (arith, c.pairs.invariant.order);
  within = omega (arith, length-set c.pairs.bins c.pairs.count c.with.result);
  so_far = rw c.with.ensures (two_joined c.pairs.bins c.pairs.count c.pairs.next _ _ c.pairs.invariant.order (omega arith) c.pairs.invariant.so_far);
}

pub returns-then-next-bins : goal.returns-then-next-bins
returns-then-next-bins c = all_joined c.pairs.bins c.pairs.count c.pairs.next empty_bin _ (omega arith) c.pairs.invariant.so_far

pub returns : goal.returns
returns c = last_joined c.pairs.bins c.pairs.count c.pairs.next _ _ c.pairs.invariant.order (omega arith) (omega arith) c.pairs.invariant.so_far

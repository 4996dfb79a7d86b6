-- None of the entries so far changed.
use Rattle.bafokun.specs.Changes.{AreUnchanged}
use Rattle.bafokun.proofs.changes.next_changed.Given as goal

abbrev pub invariant-loop-number : goal.invariant-loop-number
invariant-loop-number l = AreUnchanged l.changes l.fn.from l.number

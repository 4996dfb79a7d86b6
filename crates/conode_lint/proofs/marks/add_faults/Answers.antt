use Rattle.std.proofs.Common.{take_all}
use Rattle.conode_lint.specs.Marks.{fault_mark}
use Rattle.conode_lint_marks.proofs.LoopLemmas.{pushed_more}
use Rattle.conode_lint.proofs.marks.add_faults.Goals as goal

pub loop-fault-preserved : goal.loop-fault-preserved
loop-fault-preserved c =
    pushed_more fault_mark c.args.faults.now c.loop-fault.fault-index _ _ _ _ c.loop-fault-test.true c.loop-fault.invariant c.in-Ok.ensures.items

pub returns : goal.returns
returns c = rw (take_all c.loop-fault.fault-index c.args.faults.now c.loop-fault-test.false) at c.loop-fault.invariant

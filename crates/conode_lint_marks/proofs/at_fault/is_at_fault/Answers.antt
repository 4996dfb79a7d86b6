use Rattle.std.proofs.Common.{◌∙◌, sym}
use Rattle.std.proofs.lemmas.List.{drop_all}
use Rattle.conode_lint_marks.specs.AtFault.{is_fault_of}
use Rattle.conode_lint_marks.proofs.LoopLemmas.{none_yet, one_here}
use Rattle.conode_lint_marks.proofs.at_fault.is_at_fault.Goals as goal

pub loop-fault-preserved : goal.loop-fault-preserved
loop-fault-preserved c =
    none_yet (is_fault_of c.args.kind c.args.line) c.args.faults.now c.loop-fault.fault-index _ _ c.loop-fault-test.true (sym c.is_fault_of.ensures ∙ c.if-is_fault_of.false) c.loop-fault.invariant

pub returns : goal.returns
returns c = rw (drop_all c.loop-fault.fault-index c.args.faults.now c.loop-fault-test.false) at c.loop-fault.invariant

pub returns-then-is_fault_of : goal.returns-then-is_fault_of
returns-then-is_fault_of c =
    one_here (is_fault_of c.args.kind c.args.line) c.args.faults.now c.loop-fault.fault-index _ _ c.loop-fault-test.true (sym c.is_fault_of.ensures ∙ c.if-is_fault_of.true) c.loop-fault.invariant

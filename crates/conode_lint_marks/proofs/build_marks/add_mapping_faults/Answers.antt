use Rattle.std.proofs.Common.{map, take_all}
use Rattle.co_sheet_text.specs.Views.{section_view}
use Rattle.conode_lint_marks.specs.BuildLines.{mapping_mark}
use Rattle.conode_lint_marks.proofs.LoopLemmas.{pushed_more}
use Rattle.conode_lint_marks.proofs.build_marks.add_mapping_faults.Goals as goal

pub loop-fault-preserved : goal.loop-fault-preserved
loop-fault-preserved c =
    pushed_more (mapping_mark c.args.sheet.now (map section_view c.args.sections.now)) c.args.faults.now c.loop-fault.fault-index _ _ _ _
    c.loop-fault-test.true c.loop-fault.invariant (rw c.entry_line.ensures at c.in-Ok.ensures.items)

pub returns : goal.returns
returns c = rw (take_all c.loop-fault.fault-index c.args.faults.now c.loop-fault-test.false) at c.loop-fault.invariant

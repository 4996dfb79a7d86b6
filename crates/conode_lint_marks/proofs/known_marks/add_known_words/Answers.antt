use Rattle.std.proofs.Common.{map, take_all}
use Rattle.co_sheet.specs.SheetViews.{row_view}
use Rattle.co_sheet_text.specs.Views.{section_view}
use Rattle.conode_lint_marks.specs.KnownFaults.{known_word}
use Rattle.conode_lint_marks.proofs.LoopLemmas.{appended_more}
use Rattle.conode_lint_marks.proofs.known_marks.add_known_words.Goals as goal

pub loop-fault-preserved : goal.loop-fault-preserved
loop-fault-preserved c =
    appended_more (known_word (map row_view c.args.rows.now) (map section_view c.args.sections.now) c.args.kinds.now) c.args.faults.now c.loop-fault.fault-index _ _ _ _
    c.loop-fault-test.true c.loop-fault.invariant c.in-Ok.ensures

pub returns : goal.returns
returns c = rw (take_all c.loop-fault.fault-index c.args.faults.now c.loop-fault-test.false) at c.loop-fault.invariant

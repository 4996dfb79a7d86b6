use Rattle.std.proofs.Common.{◌∙◌, map, sym}
use Rattle.std.proofs.lemmas.List.{drop_all}
use Rattle.co_sheet_text.specs.Views.{section_view}
use Rattle.conode_lint_marks.specs.Doubts.{puts_in_doubt}
use Rattle.conode_lint_marks.proofs.LoopLemmas.{none_yet, one_here}
use Rattle.conode_lint_marks.proofs.doubts.is_in_doubt.Goals as goal

pub loop-fault-preserved : goal.loop-fault-preserved
loop-fault-preserved c =
    none_yet (puts_in_doubt (map (λ line. line.now) c.args.lines.now) (section_view c.args.section.now)) c.args.faults.now c.loop-fault.fault-index _ _ c.loop-fault-test.true (sym c.puts_in_doubt.ensures ∙ c.if-puts_in_doubt.false) c.loop-fault.invariant

pub returns : goal.returns
returns c = rw (drop_all c.loop-fault.fault-index c.args.faults.now c.loop-fault-test.false) at c.loop-fault.invariant

pub returns-then-puts_in_doubt : goal.returns-then-puts_in_doubt
returns-then-puts_in_doubt c =
    one_here (puts_in_doubt (map (λ line. line.now) c.args.lines.now) (section_view c.args.section.now)) c.args.faults.now c.loop-fault.fault-index _ _ c.loop-fault-test.true (sym c.puts_in_doubt.ensures ∙ c.if-puts_in_doubt.true) c.loop-fault.invariant

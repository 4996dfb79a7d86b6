use Rattle.std.proofs.Common.{[], take_all}
use Rattle.conode_lint_marks.specs.declared.mark.Mark.{Mark}
use Rattle.conode_lint_marks.specs.KnownWarnings.{bad_line}
use Rattle.conode_lint_marks.proofs.LoopLemmas.{appended_more}
use Rattle.conode_lint_marks.proofs.known_warnings.bad_lines.Goals as goal

pub loop-mark-preserved : goal.loop-mark-preserved
loop-mark-preserved c =
    appended_more (λ (m : Mark). bad_line m.line m.subject) c.args.marks.now c.loop-mark.mark-index _ [] _ _ c.loop-mark-test.true c.loop-mark.invariant c.in-Ok.ensures

pub returns : goal.returns
returns c = rw (take_all c.loop-mark.mark-index c.args.marks.now c.loop-mark-test.false) at c.loop-mark.invariant

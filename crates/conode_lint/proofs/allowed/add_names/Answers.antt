use Rattle.std.proofs.Common.{[], take_all}
use Rattle.conode_lint.specs.Allowed.{names_on}
use Rattle.conode_lint_marks.proofs.LoopLemmas.{appended_view_more}
use Rattle.conode_lint.proofs.allowed.add_names.Goals as goal

pub loop-line-preserved : goal.loop-line-preserved
loop-line-preserved c =
    appended_view_more names_on (λ line. line.now) c.args.lines.now c.loop-line.line-index _ [] _ _ c.loop-line-test.true c.loop-line.invariant c.in-Ok.ensures

pub returns : goal.returns
returns c = rw (take_all c.loop-line.line-index c.args.lines.now c.loop-line-test.false) at c.loop-line.invariant

use Rattle.std.proofs.Common.{map, take_all}
use Rattle.co_sheet_text.specs.Views.{section_view}
use Rattle.conode_lint.specs.Found.{finding_of, seen}
use Rattle.conode_lint_marks.proofs.LoopLemmas.{pushed_seen_more}
use Rattle.conode_lint.proofs.linted_text.add_findings.Goals as goal

pub loop-mark-preserved : goal.loop-mark-preserved
loop-mark-preserved c =
    pushed_seen_more (finding_of (map (λ line. line.now) c.args.lines.now) (map section_view c.args.sections.now) c.args.node) seen c.args.marks.now c.loop-mark.mark-index _ _ _ _ c.loop-mark-test.true c.loop-mark.invariant
    c.in-Ok.ensures.items c.finding_of.ensures

pub returns : goal.returns
returns c = rw (take_all c.loop-mark.mark-index c.args.marks.now c.loop-mark-test.false) at c.loop-mark.invariant

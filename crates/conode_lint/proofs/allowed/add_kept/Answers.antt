use Rattle.std.proofs.Common.{[], map, take_all}
use Rattle.conode_lint.specs.Allowed.{kept_of, passes_by}
use Rattle.conode_lint_marks.proofs.LoopLemmas.{appended_more}
use Rattle.conode_lint.proofs.allowed.add_kept.Goals as goal

pub loop-mark-preserved : goal.loop-mark-preserved
loop-mark-preserved c =
    let passes = passes_by (map (λ one. one.now) c.args.given.now) (map (λ one. one.now) c.args.in_sheet.now) in
    appended_more (kept_of passes) c.args.marks.now c.loop-mark.mark-index _ [] _ _ c.loop-mark-test.true c.loop-mark.invariant c.in-Ok.ensures

pub returns : goal.returns
returns c = rw (take_all c.loop-mark.mark-index c.args.marks.now c.loop-mark-test.false) at c.loop-mark.invariant

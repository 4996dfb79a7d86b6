use Rattle.std.proofs.Common.{◌||◌, ◌∙◌, map, refl, sym}
use Rattle.std.specs.List.{list_any}
use Rattle.std.proofs.lemmas.List.{drop_all}
use Rattle.conode_lint.specs.Formats.{has_other_end, lacks_return}
use Rattle.conode_lint_marks.proofs.LoopLemmas.{found_here, passed_more}
use Rattle.conode_lint.proofs.other_format.has_other_end.Goals as goal

pub loop-line-preserved : goal.loop-line-preserved
unfolding has_other_end
loop-line-preserved c =
    passed_more (λ lines. list_any lacks_return (map (λ line. line.now) lines)) (λ line. lacks_return line.now) (λ x b y. b || y) (λ x l. refl) (λ x y. refl) c.args.lines.now c.loop-line.line-index _ _ c.loop-line-test.true
    (sym c.lacks_return.ensures ∙ c.if-lacks_return.false) c.loop-line.invariant

pub returns : goal.returns
unfolding has_other_end
returns c = rw (drop_all c.loop-line.line-index c.args.lines.now c.loop-line-test.false) at c.loop-line.invariant

pub returns-then-lacks_return : goal.returns-then-lacks_return
unfolding has_other_end
returns-then-lacks_return c =
    found_here (λ lines. list_any lacks_return (map (λ line. line.now) lines)) (λ line. lacks_return line.now) (λ x b y. b || y) (λ x l. refl) c.args.lines.now c.loop-line.line-index _ _ c.loop-line-test.true
    (sym c.lacks_return.ensures ∙ c.if-lacks_return.true) c.loop-line.invariant

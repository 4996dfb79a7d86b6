use Rattle.std.specs.Prelude.{◌==◌}
use Rattle.std.proofs.lemmas.List.{drop_all}
use Rattle.conode_lint_marks.proofs.LoopLemmas.{alike, apart, none_yet, one_here}
use Rattle.conode_lint_marks.proofs.known_warnings.is_one_of.Goals as goal

pub loop-own-preserved : goal.loop-own-preserved
loop-own-preserved c =
    none_yet (λ own. own == c.args.line) c.args.lines.now c.loop-own.own-index _ _ c.loop-own-test.true (apart _ _ c.if-own-line.false) c.loop-own.invariant

pub returns : goal.returns
returns c = rw (drop_all c.loop-own.own-index c.args.lines.now c.loop-own-test.false) at c.loop-own.invariant

pub returns-then-own-line : goal.returns-then-own-line
returns-then-own-line c =
    one_here (λ own. own == c.args.line) c.args.lines.now c.loop-own.own-index _ _ c.loop-own-test.true (alike _ _ c.if-own-line.true) c.loop-own.invariant

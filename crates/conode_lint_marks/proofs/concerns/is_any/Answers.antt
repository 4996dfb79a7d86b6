use Rattle.std.proofs.Common.{◌∙◌, sym}
use Rattle.std.proofs.lemmas.List.{drop_all}
use Rattle.conode_lint_marks.specs.Concerns.{concerns}
use Rattle.conode_lint_marks.proofs.LoopLemmas.{none_yet, one_here}
use Rattle.conode_lint_marks.proofs.concerns.is_any.Goals as goal

pub loop-kind-preserved : goal.loop-kind-preserved
loop-kind-preserved c =
    none_yet (concerns c.args.concern) c.args.kinds.now c.loop-kind.kind-index _ _ c.loop-kind-test.true (sym c.concerns.ensures ∙ c.if-concerns.false) c.loop-kind.invariant

pub returns : goal.returns
returns c = rw (drop_all c.loop-kind.kind-index c.args.kinds.now c.loop-kind-test.false) at c.loop-kind.invariant

pub returns-then-concerns : goal.returns-then-concerns
returns-then-concerns c =
    one_here (concerns c.args.concern) c.args.kinds.now c.loop-kind.kind-index _ _ c.loop-kind-test.true (sym c.concerns.ensures ∙ c.if-concerns.true) c.loop-kind.invariant

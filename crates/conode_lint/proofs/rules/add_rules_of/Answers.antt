use Rattle.std.proofs.Common.{take_all}
use Rattle.conode_lint.specs.Rules.{rule_of, seen_rule}
use Rattle.conode_lint_marks.proofs.LoopLemmas.{pushed_seen_more}
use Rattle.conode_lint.proofs.rules.add_rules_of.Goals as goal

pub loop-subject-preserved : goal.loop-subject-preserved
loop-subject-preserved c =
    pushed_seen_more rule_of seen_rule c.args.subjects.now c.loop-subject.subject-index _ _ _ _ c.loop-subject-test.true c.loop-subject.invariant c.in-Ok.ensures.items c.rule_of.ensures

pub returns : goal.returns
returns c = rw (take_all c.loop-subject.subject-index c.args.subjects.now c.loop-subject-test.false) at c.loop-subject.invariant

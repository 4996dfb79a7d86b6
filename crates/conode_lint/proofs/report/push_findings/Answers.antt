use Rattle.std.proofs.Common.{take_all}
use Rattle.conode_lint_marks.proofs.LoopLemmas.{appended_more}
use Rattle.conode_lint_text.specs.TextForm.{finding_lines}
use Rattle.conode_lint.proofs.report.push_findings.Goals as goal

pub loop-finding-preserved : goal.loop-finding-preserved
loop-finding-preserved c =
    appended_more (finding_lines c.args.colours c.args.file.now) c.args.findings.now c.loop-finding.finding-index _ _ _ _ c.loop-finding-test.true c.loop-finding.invariant c.in-Ok.ensures

pub returns : goal.returns
returns c = rw (take_all c.loop-finding.finding-index c.args.findings.now c.loop-finding-test.false) at c.loop-finding.invariant

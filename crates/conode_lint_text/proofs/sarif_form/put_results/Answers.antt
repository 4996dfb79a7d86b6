use Rattle.std.proofs.Common.{take_all}
use Rattle.conode_text.proofs.Appending.{nothing, one_more}
use Rattle.conode_lint_text.specs.SarifForm.{result_tokens}
use Rattle.conode_lint_text.proofs.sarif_form.put_results.Goals as goal

pub loop-finding-init : goal.loop-finding-init
loop-finding-init c = nothing _

pub loop-finding-preserved : goal.loop-finding-preserved
loop-finding-preserved c = one_more (result_tokens c.args.uri.now) c.args.findings.now c.loop-finding.finding-index _ c.loop-finding-test.true c.loop-finding.invariant c.put_result.ensures

pub returns : goal.returns
returns c = rw (take_all c.loop-finding.finding-index c.args.findings.now c.loop-finding-test.false) at c.loop-finding.invariant

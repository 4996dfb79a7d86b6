-- One after another.
use Rattle.conode_compare_documents.specs.Differences.{difference}
use Rattle.conode_compare_documents.proofs.Enumerated.{last_one, next_one}
use Rattle.conode_compare_documents.proofs.differences.push_rows.Goals as goal

pub loop-at-init : goal.loop-at-init
loop-at-init c = λ end rest. rest

pub loop-at-preserved : goal.loop-at-preserved
loop-at-preserved c = next_one (difference c.args.report.now) c.args.noted.now c.loop-at.at _ c.loop-at-test.true c.loop-at.invariant c.push_difference.ensures

pub returns : goal.returns
returns c = (last_one (difference c.args.report.now) c.args.noted.now c.loop-at.at c.loop-at-test.false c.loop-at.invariant)

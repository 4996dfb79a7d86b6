-- One test case after another.
use Rattle.std.proofs.Common.{take_all}
use Rattle.conode_json.proofs.Appending.{nothing, one_more}
use Rattle.conode_compare_documents.specs.JunitCases.{case_markup}
use Rattle.conode_compare_documents.proofs.junit_text.push_cases.Goals as goal

pub loop-counted-init : goal.loop-counted-init
loop-counted-init c = nothing _

pub loop-counted-preserved : goal.loop-counted-preserved
loop-counted-preserved c = one_more (case_markup c.args.recording.now c.args.noted.now) c.args.kinds.now c.loop-counted.counted-index _ c.loop-counted-test.true c.loop-counted.invariant c.push_case.ensures

pub returns : goal.returns
returns c = rw (take_all c.loop-counted.counted-index c.args.kinds.now c.loop-counted-test.false) at c.loop-counted.invariant

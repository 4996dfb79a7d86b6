-- What the line says is what its grammar spells.
use Rattle.conode_trace.proofs.FewBytes.{line_few}
use Rattle.conode_trace.proofs.GrammarLines.{line_is, line_spelled}
use Rattle.conode_trace.proofs.trace_line.TraceLine.read.Goals as goal

pub returns-clause-found : goal.returns-clause-found
returns-clause-found c = rw c.of_line.ensures (line_spelled c.args.line.now)

pub returns-clause-only : goal.returns-clause-only
returns-clause-only c says spelled = rw c.of_line.ensures (line_is says c.args.line.now spelled)

pub returns-clause-few : goal.returns-clause-few
returns-clause-few c = rw c.of_line.ensures (line_few c.args.line.now)

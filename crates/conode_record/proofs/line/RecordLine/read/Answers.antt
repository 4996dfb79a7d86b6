-- What the line says is what its grammar spells.
use Rattle.conode_record.proofs.SpelledLines.{line_is, line_spelled, line_identifier}
use Rattle.conode_record.proofs.line.RecordLine.read.Goals as goal

pub returns-clause-found : goal.returns-clause-found
returns-clause-found c = rw c.of_line.ensures (line_spelled c.args.line.now)

pub returns-clause-only : goal.returns-clause-only
returns-clause-only c says spelled = rw c.of_line.ensures (line_is says c.args.line.now spelled)

pub returns-clause-identifier : goal.returns-clause-identifier
returns-clause-identifier c = rw c.of_line.ensures (line_identifier c.args.line.now)

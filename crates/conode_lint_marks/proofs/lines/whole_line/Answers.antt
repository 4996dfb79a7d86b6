use Rattle.std.proofs.Common.{arith}
use Rattle.conode_lint_marks.proofs.CutLemmas.{line_found}
use Rattle.conode_lint_marks.proofs.lines.whole_line.Goals as goal

pub returns : goal.returns
returns c = line_found c.args.lines.now c.args.number _ (omega arith) (omega arith)

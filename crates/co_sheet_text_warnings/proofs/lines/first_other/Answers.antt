use Rattle.std.proofs.lemmas.List.{drop_all}
use Rattle.co_sheet_text_warnings.proofs.lines.first_other.Goals as goal

pub returns : goal.returns
returns c = rw (drop_all c.loop-line.line-index c.args.lines.now c.loop-line-test.false) at c.loop-line.invariant.found

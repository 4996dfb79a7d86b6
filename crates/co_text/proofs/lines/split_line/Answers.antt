use Rattle.std.proofs.Common.{sym}
use Rattle.co_text.proofs.LineLemmas.{lines-at, lines-last}
use Rattle.co_text.proofs.lines.split_line.Goals as goal

pub returns-in-Some-clause-lines : goal.returns-in-Some-clause-lines
returns-in-Some-clause-lines c =
    lines-at c.args.text.now c.in-Some.line.now c.in-Some.rest.now c.without_return.result.now (sym c.in-Some.ensures.some) c.in-Some.ensures.before c.in-Some.ensures.after
    c.without_return.ensures

pub returns-in-None-clause-lines : goal.returns-in-None-clause-lines
returns-in-None-clause-lines c = lines-last c.args.text.now (sym c.in-None.ensures.some) (sym c.if-is_empty.ensures)

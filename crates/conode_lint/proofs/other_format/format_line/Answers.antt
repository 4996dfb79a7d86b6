use Rattle.std.proofs.Common.{◌+◌, ◌∙◌, sym, ap}
use Rattle.conode_lint.specs.Formats.{format_line, shows}
use Rattle.conode_lint.proofs.FormatLemmas.{count-end, count-here, count-turn}
use Rattle.conode_lint.proofs.other_format.format_line.Goals as goal

pub loop-line-preserved : goal.loop-line-preserved
loop-line-preserved c = record {
  found = count-turn (shows c.args.format) (λ line. line.now) c.args.lines.now c.loop-line.line-index c.loop-line.number _ _ c.loop-line-test.true (sym c.shows.ensures ∙ c.if-shows.false) c.loop-line.invariant.found;
  next = ap (λ n. n + 1) c.loop-line.invariant.next;
}

pub returns-then-shows : goal.returns-then-shows
unfolding format_line
returns-then-shows c =
    count-here (shows c.args.format) (λ line. line.now) c.args.lines.now c.loop-line.line-index c.loop-line.number _ _ c.loop-line-test.true (sym c.shows.ensures ∙ c.if-shows.true) c.loop-line.invariant.found

pub returns : goal.returns
unfolding format_line
returns c = count-end (shows c.args.format) (λ line. line.now) c.args.lines.now c.loop-line.line-index c.loop-line.number _ c.loop-line-test.false c.loop-line.invariant.found

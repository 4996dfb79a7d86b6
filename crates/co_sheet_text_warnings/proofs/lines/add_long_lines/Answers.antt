use Rattle.std.proofs.Common.{◌+◌, ap}
use Rattle.std.specs.Prelude.{option_to_list}
use Rattle.co_sheet_text_warnings.proofs.LineLemmas.{long-end, long-turn}
use Rattle.co_sheet_text_warnings.proofs.lines.add_long_lines.Goals as goal

pub loop-line-preserved : goal.loop-line-preserved
loop-line-preserved c = record {
  found = long-turn c.args.kind c.args.lines.now c.loop-line.line-index _ c.loop-line.number c.loop-line.warnings.items c.add_one.new.warnings.items _ c.loop-line-test.true
      (c.in-Ok.ensures _ (ap option_to_list c.long_line.ensures)) c.loop-line.invariant.found;
  next = ap (λ n. n + 1) c.loop-line.invariant.next;
}

pub returns : goal.returns
returns c = long-end c.args.kind c.args.lines.now c.loop-line.line-index c.loop-line.number _ _ c.loop-line-test.false c.loop-line.invariant.found

use Rattle.std.proofs.lemmas.List.{drop_all}
use Rattle.co_sheet_text_warnings.proofs.lines.mixed_line_ends.Goals as goal

pub returns : goal.returns
returns c = rw (drop_all c.loop-byte.byte-index c.args.text.now c.loop-byte-test.false) at c.loop-byte.invariant.found

use Rattle.std.proofs.Common.{◌≡◌, ◌+◌, ◌≤◌, false, true}
use Rattle.co_stream.specs.Held.{nothing_held}
use Rattle.conode_convert.specs.Converted.{at_start}
use Rattle.conode_explain.specs.Explained.{nothing_known}
use Rattle.conode_explain.specs.Taking.{Takes}
use Rattle.conode_explain.specs.Sheets.{sheets_of}
use Rattle.conode_explain.proofs.explained.explain_all.Given as goal

abbrev pub invariant-loop-number : goal.invariant-loop-number
invariant-loop-number g l =
    record {
      taken : Takes l.settings.form (sheets_of l.settings) nothing_held l.explaining.lines (g.R.Read.remaining l.fn.reader) (g.R.Read.remaining l.reader) (at_start l.settings.form.log) l.explaining.log nothing_known l.explaining.progress (g.W.Write.contents l.fn.out) (g.W.Write.contents l.out) l.bad false;
      none : l.settings.form.stop ≡ true → l.bad ≡ 0;
      few : l.bad + 1 ≤ l.number;
    }

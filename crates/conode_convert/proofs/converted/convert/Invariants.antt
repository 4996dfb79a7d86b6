use Rattle.std.proofs.Common.{◌+◌, ◌≤◌}
use Rattle.co_stream.specs.Held.{nothing_held}
use Rattle.conode_convert.specs.Converted.{at_start}
use Rattle.conode_convert.specs.Taking.{Takes}
use Rattle.conode_convert.proofs.converted.convert.Given as goal

abbrev pub invariant-loop-number : goal.invariant-loop-number
invariant-loop-number g l =
    record {
      taken : Takes nothing_held l.converting.lines (g.R.Read.remaining l.fn.reader) (g.R.Read.remaining l.reader) (at_start l.fn.form) l.converting.log (g.W.Write.contents l.fn.out) (g.W.Write.contents l.out) l.bad;
      few : l.bad + 1 ≤ l.number;
    }

use Rattle.std.proofs.Common.{[], ◌+◌, ◌≤◌}
use Rattle.co_stream.specs.Held.{nothing_held}
use Rattle.conode_convert.specs.Converted.{at_start}
use Rattle.conode_stats.specs.Taking.{Takes}
use Rattle.conode_stats.proofs.recording.count.Given as goal

abbrev pub invariant-loop-number : goal.invariant-loop-number
invariant-loop-number g l =
    record {
      taken : Takes nothing_held l.counting.lines (g.R.Read.remaining l.fn.reader) (g.R.Read.remaining l.reader) (at_start l.fn.form) l.counting.log [] l.counting.counts l.bad;
      few : l.bad + 1 ≤ l.number;
    }

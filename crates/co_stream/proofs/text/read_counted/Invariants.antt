use Rattle.std.proofs.Common.{◌≤◌, length}
use Rattle.std.specs.Io.KnownBytes.{Consumes}
use Rattle.co_stream.proofs.text.read_counted.Given as goal

abbrev pub invariant-loop-piece : goal.invariant-loop-piece
invariant-loop-piece g l = record {
  came : Consumes (g.R.Read.remaining l.fn.reader) (g.R.Read.remaining l.reader) l.text.items;
  size : length l.text.items ≤ 1048577;
}

abbrev pub decreases-loop-piece : goal.decreases-loop-piece
decreases-loop-piece g l = l.asks.left

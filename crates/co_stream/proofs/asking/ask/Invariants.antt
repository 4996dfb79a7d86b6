use Rattle.std.proofs.Common.{◌≡◌, length}
use Rattle.std.specs.Io.KnownBytes.{Keeps}
use Rattle.co_stream.proofs.asking.ask.Given as goal

abbrev pub invariant-loop-tries : goal.invariant-loop-tries
invariant-loop-tries g l = record {
  kept : Keeps (g.R.Read.remaining l.fn.reader) (g.R.Read.remaining l.reader);
  size : length l.room ≡ length l.fn.room;
}

abbrev pub decreases-loop-tries : goal.decreases-loop-tries
decreases-loop-tries g l = l.tries

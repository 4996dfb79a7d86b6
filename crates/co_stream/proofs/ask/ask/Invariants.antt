use Rattle.std.proofs.Common.{◌≡◌, ◌≤◌, length, true}
use Rattle.std.specs.Io.KnownBytes.{Keeps}
use Rattle.co_stream.proofs.ask.ask.Given as goal

abbrev pub invariant-asked : goal.invariant-asked
invariant-asked g l = record {
  kept : Keeps (g.R.Read.remaining l.fn.reader) (g.R.Read.remaining l.reader);
  length : length l.room ≡ length l.fn.room;
  asked : l.asks.left ≤ l.fn.asks.left;
  again : l.fn.asks.failed ≡ true → (l.reader ≡ l.fn.reader) × (l.asks.failed ≡ true);
}

abbrev pub decreases-asked : goal.decreases-asked
decreases-asked g l = l.asks.left

use Rattle.std.proofs.Common.{◌≡◌, ◌+◌, ◌≤◌, length, true, false}
use Rattle.std.specs.Io.KnownBytes.{Consumes}
use Rattle.co_stream.specs.Lines.{has_line_feed}
use Rattle.co_stream.specs.Readings.{Gave, known_bytes, most_bytes}
use Rattle.co_stream.proofs.line_cutter.LineCutter.advance.Given as goal

abbrev pub invariant-loop-self : goal.invariant-loop-self
invariant-loop-self g l =
    let remaining = g.R.Read.remaining in
    record {
      came : Gave l.fn.self.ended l.self.ended (remaining l.fn.reader) (remaining l.reader) (λ had has. Consumes (known_bytes l.fn.self.ended l.fn.self.piece had) (known_bytes l.self.ended l.self.piece has) l.self.line);
      within : has_line_feed l.self.line ≡ false;
      held : has_line_feed l.fn.self.piece ≡ true → (l.reader ≡ l.fn.reader) × (l.self.piece ≡ l.fn.self.piece);
      ended : l.fn.self.ended ≡ true → (l.reader ≡ l.fn.reader) × (l.self.ended ≡ true);
      asked : l.self.asks.left ≤ l.fn.self.asks.left;
      few : length l.self.line + most_bytes l.self.asks.left l.self.piece ≤ most_bytes l.fn.self.asks.left l.fn.self.piece;
    }

abbrev pub decreases-loop-self : goal.decreases-loop-self
decreases-loop-self g l = l.self.asks.left

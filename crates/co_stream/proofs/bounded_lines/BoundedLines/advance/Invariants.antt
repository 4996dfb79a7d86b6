use Rattle.std.proofs.Common.{◌≡◌, true}
use Rattle.co_stream.specs.Lines.{has_line_feed}
use Rattle.co_stream.proofs.Passing.{PassedAny}
use Rattle.co_stream.proofs.bounded_lines.BoundedLines.advance.Given as goal

abbrev pub invariant-loop-asks : goal.invariant-loop-asks
invariant-loop-asks g l =
    let remaining = g.R.Read.remaining in
    record {
      passed : PassedAny l.fn.self.ended l.self.ended l.fn.self.rest l.self.rest (remaining l.fn.reader) (remaining l.reader) l.passing;
      held : has_line_feed l.fn.self.rest ≡ true → (l.reader ≡ l.fn.reader) × (l.self.rest ≡ l.fn.self.rest);
      ended : l.fn.self.ended ≡ true → (l.reader ≡ l.fn.reader) × (l.self.ended ≡ true);
    }

abbrev pub decreases-loop-asks : goal.decreases-loop-asks
decreases-loop-asks g l = l.asks

use Rattle.std.proofs.Common.{◌≡◌, length}
use Rattle.conode_compare.specs.BadLines.{has_no_frame}
use Rattle.conode_compare.proofs.bad_lines.has_no_frame.Given as goal

abbrev pub invariant-loop-byte : goal.invariant-loop-byte
invariant-loop-byte l = has_no_frame l.rest ≡ has_no_frame l.line

abbrev pub decreases-loop-byte : goal.decreases-loop-byte
decreases-loop-byte l = length l.rest

use Rattle.std.proofs.Common.{◌≡◌, length}
use Rattle.conode_compare.specs.BadLines.{is_alone}
use Rattle.conode_compare.proofs.bad_lines.is_alone.Given as goal

abbrev pub invariant-loop-byte : goal.invariant-loop-byte
invariant-loop-byte l = is_alone l.rest ≡ is_alone l.text

abbrev pub decreases-loop-byte : goal.decreases-loop-byte
decreases-loop-byte l = length l.rest

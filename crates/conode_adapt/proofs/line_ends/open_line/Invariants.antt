use Rattle.std.proofs.Common.{◌≡◌, ◌+◌, ◌≤◌, drop, false}
use Rattle.conode_adapt.specs.Listing.{open_line}
use Rattle.conode_adapt.proofs.line_ends.open_line.Given as goal

-- that of the rest
abbrev pub invariant-loop-byte : goal.invariant-loop-byte
invariant-loop-byte l = record {
  found : open_line l.line l.is_begun (drop l.byte-index l.source) ≡ open_line 1 false l.source;
  few : l.line ≤ l.byte-index + 1;
}

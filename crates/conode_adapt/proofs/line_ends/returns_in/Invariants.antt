use Rattle.std.proofs.Common.{◌≡◌, ◌+◌, ◌≤◌, ◌++◌, drop, false}
use Rattle.conode_adapt.specs.Listing.{returns_from}
use Rattle.conode_adapt.proofs.line_ends.returns_in.Given as goal

-- those so far, and after them those of the rest
abbrev pub invariant-loop-byte : goal.invariant-loop-byte
invariant-loop-byte l = record {
  found : l.lines.items ++ returns_from l.line l.after_cr (drop l.byte-index l.source) ≡ returns_from 1 false l.source;
  few : l.line ≤ l.byte-index + 1;
}

use Rattle.std.proofs.Common.{◌≡◌, ◌++◌, map, take}
use Rattle.conode_adapt.specs.Listing.{shown_byte}
use Rattle.conode_adapt.proofs.listing.push_shown.Given as goal

-- those so far
abbrev pub invariant-loop-byte : goal.invariant-loop-byte
invariant-loop-byte l = l.text.items ≡ l.fn.text.items ++ map shown_byte (take l.byte-index l.bytes)

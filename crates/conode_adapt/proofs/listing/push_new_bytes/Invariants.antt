use Rattle.std.proofs.Common.{◌≡◌, ◌++◌, take}
use Rattle.std.specs.List.{flat_map}
use Rattle.conode_adapt.specs.Listing.{new_byte}
use Rattle.conode_adapt.proofs.listing.push_new_bytes.Given as goal

-- those so far
abbrev pub invariant-loop-byte : goal.invariant-loop-byte
invariant-loop-byte l = l.text.items ≡ l.fn.text.items ++ flat_map new_byte (take l.byte-index l.bytes)

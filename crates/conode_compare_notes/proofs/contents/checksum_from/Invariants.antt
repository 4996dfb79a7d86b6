-- The checksum so far goes on with the bytes that are left.
use Rattle.std.proofs.Common.{◌≡◌, drop}
use Rattle.conode_compare_notes.specs.Contents.{checksum_from}
use Rattle.conode_compare_notes.proofs.contents.checksum_from.Given as goal

abbrev pub invariant-loop-byte : goal.invariant-loop-byte
invariant-loop-byte l = checksum_from l.so_far (drop l.byte-index l.bytes) ≡ checksum_from l.fn.sum l.bytes

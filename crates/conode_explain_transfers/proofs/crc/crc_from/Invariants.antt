-- The CRC so far goes on with the bytes that are left.
use Rattle.std.proofs.Common.{◌≡◌, drop}
use Rattle.conode_explain_transfers.specs.Crc.{crc_from}
use Rattle.conode_explain_transfers.proofs.crc.crc_from.Given as goal

abbrev pub invariant-loop-byte : goal.invariant-loop-byte
invariant-loop-byte l = crc_from l.so_far (drop l.byte-index l.bytes) ≡ crc_from l.fn.crc l.bytes

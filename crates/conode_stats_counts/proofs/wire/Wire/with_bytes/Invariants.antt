-- The bytes that are left go on with those so far.
use Rattle.std.proofs.Common.{◌<◌, ◌≤◌, ◌+◌, ◌*◌, drop}
use Rattle.conode_stats_counts.specs.declared.wire.Wire.{Wire}
use Rattle.conode_stats_counts.specs.Bits.{data_bits}
use Rattle.conode_stats_counts.specs.Wires.{Sends}
use Rattle.conode_stats_counts.proofs.wire.Wire.with_bytes.Given as goal

abbrev pub invariant-loop-byte : goal.invariant-loop-byte
invariant-loop-byte l = record {
  sends : (after : Wire) → Sends (record { crc = l.crc; run = l.run; stuffed = l.stuffed }) (data_bits (drop l.byte-index l.bytes)) after
      → Sends l.fn.self (data_bits l.bytes) after;
  few : l.stuffed ≤ l.fn.self.stuffed + 31 * l.byte-index;
  run : l.run < 8;
}

-- What is left of the number goes on with the bits so far.
use Rattle.std.proofs.Common.{◌≡◌, ◌<◌, ◌≤◌, ◌+◌, ◌*◌, ◌%◌}
use Rattle.conode_stats_counts.specs.declared.wire.Wire.{Wire}
use Rattle.conode_stats_counts.specs.Bits.{bits_of}
use Rattle.conode_stats_counts.specs.Wires.{Sends}
use Rattle.conode_stats_counts.proofs.wire.Wire.with_number.Given as goal

abbrev pub invariant-loop-low : goal.invariant-loop-low
invariant-loop-low l = record {
  low : l.low ≤ l.fn.count;
  whole : l.low % 8 ≡ 0;
  sends : (after : Wire) → Sends l.wire (bits_of l.low l.fn.number) after → Sends l.fn.self (bits_of l.fn.count l.fn.number) after;
  few : l.wire.stuffed + 4 * l.low ≤ l.fn.self.stuffed + 4 * l.fn.count;
  run : l.wire.run < 8;
}

abbrev pub decreases-loop-low : goal.decreases-loop-low
decreases-loop-low l = l.low

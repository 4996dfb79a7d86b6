-- The bits of a frame, counted as they are sent.
use Rattle.std.specs.Prelude.{ℕ, ◌+◌, ◌/◌, ◌%◌, ◌≡◌, List, ◌++◌, fold}
use Rattle.conode_stats_counts.specs.declared.wire.Wire.{Wire}
use Rattle.conode_stats_counts.specs.Bits.{crc_of, crc_with, stuff_bits, stuffed_from}

-- the stuff bits that were sent, and those among further bits; a run is 4 * its bit + its length - 1
abbrev pub stuffed_with : Wire → List ℕ → ℕ
stuffed_with wire bits = wire.stuffed + stuffed_from (wire.run / 4) (wire.run % 4 + 1) bits

-- these bits lead from one state of the bus to another
pub record Sends (before : Wire) (bits : List ℕ) (after : Wire) : Type 0 where
  pub crc : after.crc ≡ fold crc_with before.crc bits
  pub stuffed : (more : List ℕ) → stuffed_with after more ≡ stuffed_with before (bits ++ more)

-- the bus after these bits of a frame
pub record IsAfter (wire : Wire) (bits : List ℕ) : Type 0 where
  pub crc : wire.crc ≡ crc_of bits
  pub stuffed : (more : List ℕ) → stuffed_with wire more ≡ stuff_bits (bits ++ more)

-- The bits that a frame of a recording takes on the bus.
use Rattle.std.specs.Prelude.{ℕ, ◌+◌, ◌*◌, List, ◌++◌, length}
use Rattle.conode_record.specs.declared.content.Content.{Content}
use Rattle.conode_record.specs.declared.content.Content.TheVariants.{Data, Remote}
use Rattle.conode_record.specs.declared.fields.Identifier.{Identifier}
use Rattle.conode_record.specs.declared.fields.Identifier.TheVariants.{Base, Extended}
use Rattle.conode_stats_counts.specs.declared.size.Size.{Size}
use Rattle.conode_stats_counts.specs.Bits.{base_head, extended_head, data_bits, frame_bits, most_bits}

-- the size of a frame with these bits up to its CRC, and the most for so many bits
abbrev pub size_as : ℕ → List ℕ → Size
size_as count bits = record { bits = frame_bits bits; most = most_bits count }

-- an unknown size
abbrev pub no_size : Size
no_size = record { bits = 0; most = 0 }

-- The size of a frame. It is unknown for a CAN FD frame, which has two bit rates, and for an error
-- frame, which ends where the error is.
unfoldable pub size_of : Identifier → Content → Size
size_of (Base id) (Data bytes) =
    size_as (34 + 8 * length bytes) (base_head id 0 (length bytes) ++ data_bits bytes)
size_of (Base id) (Remote count) = size_as 34 (base_head id 1 count)
size_of (Extended id) (Data bytes) =
    size_as (54 + 8 * length bytes) (extended_head id 0 (length bytes) ++ data_bits bytes)
size_of (Extended id) (Remote count) = size_as 54 (extended_head id 1 count)
size_of _ _ = no_size

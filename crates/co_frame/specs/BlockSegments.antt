-- The segments of an SDO block transfer (CiA 301, 7.2.4.3.10 and 7.2.4.3.14).
use Rattle.std.specs.Prelude.{◌≡◌, ◌==◌, ◌&&◌, ◌≤◌, ◌<◌, ◌+◌, ◌/◌, ◌%◌, nat_le, ℕ, Bool, if◌then◌else◌, Option, Some, None, List, ◌∷◌, length, slice_index, drop}
use Rattle.co_frame.specs.declared.block_segment.BlockSegment.{BlockSegment}

-- a segment that can be spelled: its sequence number goes from 1 to 127
abbrev pub IsBlockSegment : BlockSegment → Type 0
IsBlockSegment segment = (1 ≤ segment.sequence) × (segment.sequence < 128)

-- eight bytes: c in bit 7 of the first and the sequence number, which is not 0, in its bits 6..0,
-- then seven bytes of data
pub record SpellsBlockSegment (segment : BlockSegment) (bytes : List ℕ) : Type 0 where
  pub length : length bytes ≡ 8
  pub last : segment.last ≡ (slice_index bytes 0 / 128 == 1)
  pub sequence : segment.sequence ≡ slice_index bytes 0 % 128
  pub numbered : 1 ≤ segment.sequence
  pub contents : segment.bytes ≡ drop 1 bytes

-- the data bytes of a segment
abbrev pub block_segment_bytes : BlockSegment → List ℕ
block_segment_bytes segment = ((if segment.last then 128 else 0) + segment.sequence) ∷ segment.bytes

-- what the data bytes say
abbrev pub block_segment_in : List ℕ → Option BlockSegment
block_segment_in bytes =
    let first = slice_index bytes 0 in
    if length bytes == 8 && nat_le 1 (first % 128)
    then Some (record { last = first / 128 == 1; sequence = first % 128; bytes = drop 1 bytes })
    else None

-- an abort inside a sub-block: eight bytes of which the first is 80h (81h to 9Fh, which otherwise
-- read as an abort, are segments there)
abbrev pub is_abort_in_sub_block : List ℕ → Bool
is_abort_in_sub_block bytes = (length bytes == 8) && (slice_index bytes 0 == 0x80)

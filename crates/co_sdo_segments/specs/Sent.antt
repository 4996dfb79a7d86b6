-- The segments and sub-blocks in which bytes are sent (CiA 301, 7.2.4.3.4, 7.2.4.3.7, 7.2.4.3.10
-- and 7.2.4.3.14).
use Rattle.std.specs.Prelude.{ℕ, ◌+◌, ◌-◌, ◌*◌, Bool, nat_le, List, length, map}
use Rattle.std.specs.List.{range_with_len}
use Rattle.co_frame.specs.FrameContent.{FrameContent}
use Rattle.co_frame.specs.SegmentSizes.{bytes_per_segment}
use Rattle.co_frame.specs.BlockSegments.{block_segment_bytes}
pub use Rattle.co_frame.specs.Segments.{is_odd, part_after, segments_for, segment_count, block_segment, sub_block_length}

-- the segment after the first `count` is the last: no bytes remain after it
abbrev pub is_last_after : ℕ → List ℕ → Bool
is_last_after count bytes = nat_le (length bytes) (bytes_per_segment * count + bytes_per_segment)

-- how many bytes of the last segment of a block transfer contain no data
abbrev pub unused_after : List ℕ → ℕ
unused_after bytes = bytes_per_segment * segment_count bytes - length bytes

-- the frames of the sub-block after the first `position` segments, numbered from 1, on an
-- identifier
abbrev pub sub_block_frames : ℕ → List ℕ → ℕ → ℕ → List FrameContent
sub_block_frames id bytes position size =
    map (λ number. record { id = id; bytes = block_segment_bytes (block_segment bytes position number) })
    (range_with_len 1 (sub_block_length bytes position size))

-- The segments of a sub-block that the receiver of a block transfer takes (CiA 301, 7.2.4.3.10 and
-- 7.2.4.3.14).
use Rattle.std.specs.Prelude.{ℕ, ◌+◌, List, ◌++◌, Option}
use Rattle.std.specs.Option.{option_map_or}
use Rattle.co_frame.specs.BlockSegments.{block_segment_in}
use Rattle.co_frame.specs.declared.block_segment.BlockSegment.{BlockSegment}
pub use Rattle.co_frame.specs.SubBlocks.{ends_sub_block, sub_block, segment_taken, and_segment, taken_segments, taken_after, bytes_taken, is_last_taken, block_bytes, has_last}

-- the segment in a frame, if it is the next of its sub-block
abbrev pub segment_next : ℕ → List ℕ → Option BlockSegment
segment_next taken frame = segment_taken taken (block_segment_in frame)

-- how many segments of a sub-block are taken after a frame
abbrev pub taken_with : ℕ → List ℕ → ℕ
taken_with taken frame = option_map_or (λ segment. taken + 1) (segment_next taken frame) taken

-- the bytes held after a frame
abbrev pub held_with : List ℕ → ℕ → List ℕ → List ℕ
held_with held taken frame = held ++ bytes_taken (segment_next taken frame)

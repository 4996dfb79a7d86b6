-- The sub-blocks of a block transfer (CiA 301, 7.2.4.3.10 and 7.2.4.3.14): the frames that its
-- receiver got after initiate, newest first.
use Rattle.std.specs.Prelude.{ℕ, ◌+◌, ◌==◌, ◌||◌, Bool, false, List, [], ◌∷◌, ◌++◌, length, Option, Some, None, if◌then◌else◌}
use Rattle.std.specs.Option.{option_map_or}
use Rattle.co_frame.specs.SegmentSizes.{segments_per_sub_block}
use Rattle.co_frame.specs.BlockSegments.{block_segment_in}
use Rattle.co_frame.specs.declared.block_segment.BlockSegment.{BlockSegment}

-- a sub-block ends at the first segment, taken or not, with c or with the sequence number 127
abbrev pub ends_sub_block : List ℕ → Bool
ends_sub_block frame = option_map_or (λ segment. segment.last || (segment.sequence == segments_per_sub_block)) (block_segment_in frame) false

-- the frames of the sub-block that the next frame falls into: all, or those since a sub-block ended
abbrev pub sub_block : List (List ℕ) → List (List ℕ)
sub_block [] = []
sub_block (frame ∷ older) = if ends_sub_block frame then [] else frame ∷ sub_block older

-- a segment is taken if its sequence number is one more than the number taken before it in its
-- sub-block
abbrev pub segment_taken : ℕ → Option BlockSegment → Option BlockSegment
segment_taken count None = None
segment_taken count (Some segment) = if segment.sequence == count + 1 then Some segment else None

abbrev pub and_segment : Option BlockSegment → List BlockSegment → List BlockSegment
and_segment None taken = taken
and_segment (Some segment) taken = segment ∷ taken

-- the segments taken from one sub-block's frames
abbrev pub taken_segments : List (List ℕ) → List BlockSegment
taken_segments [] = []
taken_segments (frame ∷ older) = and_segment (segment_taken (length (taken_segments older)) (block_segment_in frame)) (taken_segments older)

-- the segment taken from the next frame of a block transfer, if one is
abbrev pub taken_after : List (List ℕ) → List ℕ → Option BlockSegment
taken_after older frame = segment_taken (length (taken_segments (sub_block older))) (block_segment_in frame)

-- the seven bytes of a segment
abbrev pub bytes_taken : Option BlockSegment → List ℕ
bytes_taken None = []
bytes_taken (Some segment) = segment.bytes

-- whether the last segment of the transfer was taken
abbrev pub is_last_taken : Option BlockSegment → Bool
is_last_taken None = false
is_last_taken (Some segment) = segment.last

-- the bytes of all segments taken, in their order
abbrev pub block_bytes : List (List ℕ) → List ℕ
block_bytes [] = []
block_bytes (frame ∷ older) = block_bytes older ++ bytes_taken (taken_after older frame)

-- a segment with c was taken
abbrev pub has_last : List (List ℕ) → Bool
has_last [] = false
has_last (frame ∷ older) = has_last older || is_last_taken (taken_after older frame)

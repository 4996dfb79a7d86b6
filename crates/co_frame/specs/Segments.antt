-- The segments that bytes are sent in, by either end (CiA 301, 7.2.4.3.4, 7.2.4.3.7, 7.2.4.3.10 and
-- 7.2.4.3.14).
use Rattle.std.specs.Prelude.{ℕ, ◌+◌, ◌-◌, ◌*◌, ◌/◌, ◌%◌, ◌==◌, Bool, true, false, not, max, min, List, length, take, drop}
use Rattle.co_frame.specs.SegmentSizes.{bytes_per_segment}
use Rattle.co_frame.specs.SdoFields.{padded}
use Rattle.co_frame.specs.declared.block_segment.BlockSegment.{BlockSegment}

-- the toggle bit of a segment after this many others
abbrev pub is_odd : ℕ → Bool
is_odd n = n % 2 == 1

-- two toggles are the same
abbrev pub same_bool : Bool → Bool → Bool
same_bool true b = b
same_bool false b = not b

-- the bytes of the segment after `count` others: seven, or fewer at the end
abbrev pub part_after : ℕ → List ℕ → List ℕ
part_after count bytes = take bytes_per_segment (drop (bytes_per_segment * count) bytes)

-- ---- in blocks

-- the number of segments for a number of bytes: seven bytes each, and one segment where there are
-- none
abbrev pub segments_for : ℕ → ℕ
segments_for size = max 1 ((size + 6) / bytes_per_segment)

abbrev pub segment_count : List ℕ → ℕ
segment_count bytes = segments_for (length bytes)

-- segment `number` of a sub-block that begins after `position` segments; unused bytes are 0
abbrev pub block_segment : List ℕ → ℕ → ℕ → BlockSegment
block_segment bytes position number = record {
  last = position + number == segment_count bytes;
  sequence = number;
  bytes = padded bytes_per_segment (part_after (position + number - 1) bytes);
}

-- the number of segments of a sub-block that begins after `position` segments: its block size, or
-- what is left
abbrev pub sub_block_length : List ℕ → ℕ → ℕ → ℕ
sub_block_length bytes position size = min size (segment_count bytes - position)

-- the bytes without those that the last segment leaves unused
abbrev pub without : ℕ → List ℕ → List ℕ
without unused bytes = take (length bytes - unused) bytes

-- The sizes of segments and sub-blocks (CiA 301, 7.2.4.3.4 and 7.2.4.3.10).
use Rattle.std.specs.Prelude.{ℕ}

-- the data bytes of a segment, at most
abbrev pub bytes_per_segment : ℕ
bytes_per_segment = 7

-- the segments of a sub-block, at most: the largest block size and sequence number
abbrev pub segments_per_sub_block : ℕ
segments_per_sub_block = 127

-- the data bytes of a sub-block, at most
abbrev pub bytes_per_sub_block : ℕ
bytes_per_sub_block = 889

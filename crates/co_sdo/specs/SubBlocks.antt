-- The sub-blocks of a block download (CiA 301, 7.2.4.3.10): its frames after initiate, newest
-- first. They are taken as those of a block upload are at the other end.
pub use Rattle.co_sdo_segments.specs.Taken.{ends_sub_block, sub_block, segment_taken, and_segment, taken_segments, taken_after, bytes_taken, is_last_taken, block_bytes, has_last}

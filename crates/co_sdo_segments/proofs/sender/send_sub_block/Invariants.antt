-- So many segments are sent.
use Rattle.std.proofs.Common.{◌≡◌, ◌+◌, ◌++◌, map}
use Rattle.std.specs.List.{range_with_len}
use Rattle.arrayvec.specs.ArrayVec.{array_vec_len}
use Rattle.co_frame.specs.BlockSegments.{block_segment_bytes}
use Rattle.co_sdo_segments.specs.Sent.{block_segment}
use Rattle.co_sdo_segments.proofs.sender.send_sub_block.Given as goal

abbrev pub invariant-loop-k : goal.invariant-loop-k
invariant-loop-k l = record {
  items : l.outbox.items ≡ l.initial.outbox.items ++ map (λ n. record { id = l.id; bytes = block_segment_bytes (block_segment l.bytes l.position n) }) (range_with_len 1 l.k);
  len : array_vec_len l.outbox ≡ array_vec_len l.initial.outbox + l.k;
}

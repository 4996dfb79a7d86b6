-- One more segment is sent.
use Rattle.std.proofs.Common.{arith}
use Rattle.co_sdo_segments.specs.Sent.{block_segment}
use Rattle.co_sdo_segments.proofs.SubBlocks.{sub_block_more}
use Rattle.co_sdo_segments.proofs.sender.send_sub_block.Goals as goal

pub loop-k-preserved : goal.loop-k-preserved
loop-k-preserved c = record {
  items = sub_block_more c.args.id (λ n. block_segment c.args.bytes.now c.args.position n) c.loop-k.k _ _ _ _ _ c.push.ensures.items c.loop-k.invariant.items c.write.ensures.frame c.block_segment.ensures.segment;
  len = omega arith;
}

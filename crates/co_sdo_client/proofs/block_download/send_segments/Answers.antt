-- The frames of a sub-block are those of its messages, and as many as its segments.
use Rattle.std.proofs.Common.{sym, ◌∙◌, ap, ◌++◌}
use Rattle.std.proofs.lemmas.List.FromFn.{length-map-range_with_len}
use Rattle.std.proofs.lemmas.Simd.{map-map}
use Rattle.co_sdo_client.specs.Calls.{Segment, message_bytes}
use Rattle.co_sdo_client.specs.Segments.{block_segment}
use Rattle.co_sdo_client.proofs.block_download.send_segments.Goals as goal

pub returns-clause-messages : goal.returns-clause-messages
returns-clause-messages c =
    c.send_sub_block.ensures.frames
    ∙ ap (λ frames. c.args.outbox.now.items ++ frames)
    (sym (map-map (λ message. record { id = c.args.id; bytes = message_bytes message }) (λ n. Segment (block_segment c.args.bytes.now c.args.position n)) _))

pub returns-clause-frames : goal.returns-clause-frames
returns-clause-frames c = rw c.send_sub_block.ensures.count (length-map-range_with_len _ 1 _)

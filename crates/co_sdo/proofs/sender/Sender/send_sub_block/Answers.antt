-- The frames of a sub-block are those of its answers.
use Rattle.std.proofs.Common.{sym, ◌∙◌, ap, ◌++◌}
use Rattle.std.proofs.lemmas.Simd.{map-map}
use Rattle.co_sdo.specs.Log.{Segment, answer_bytes}
use Rattle.co_sdo.specs.Uploads.{block_segment}
use Rattle.co_sdo.proofs.sender.Sender.send_sub_block.Goals as goal

pub returns-clause-answers : goal.returns-clause-answers
returns-clause-answers c =
    c.send_sub_block.ensures.frames
    ∙ ap (λ frames. c.args.outbox.now.items ++ frames)
    (sym (map-map (λ answer. record { id = c.args.self.answer; bytes = answer_bytes answer }) (λ n. Segment (block_segment c.args.value.now c.args.position n)) _))

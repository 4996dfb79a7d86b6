use Rattle.std.proofs.Common.{rules}
use Rattle.co_stream.proofs.LineLemmas.{added}
use Rattle.co_stream.proofs.line_buffer.LineBuffer.add.Goals as goal

pub invariant_of-self-2 : goal.invariant_of-self-2
invariant_of-self-2 c =
    added c.else-self.self-inside.bytes.items c.split_return-has_return.result.0.now c.args.bytes.now c.try_extend_from_slice.new.self.items c.split_return-has_return.result.1
    (search rules) c.split_return-has_return.ensures.front c.split_return-has_return.ensures.whole (search rules)

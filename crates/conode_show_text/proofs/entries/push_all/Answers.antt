use Rattle.std.proofs.Common.{◌∙◌, ◌++◌, ap, take_all}
use Rattle.conode_show_text.proofs.Steps.{appended_more}
use Rattle.conode_show_text.proofs.entries.push_all.Goals as goal

pub loop-part-preserved : goal.loop-part-preserved
loop-part-preserved c =
    appended_more (λ part. part.now) c.args.parts.now c.loop-part.part-index _ _ _ _ c.loop-part-test.true c.loop-part.invariant
    (c.in-Ok.ensures.items ∙ ap (λ l. c.loop-part.text.items ++ l) c.as_bytes.ensures.value)

pub returns : goal.returns
returns c = rw (take_all c.loop-part.part-index c.args.parts.now c.loop-part-test.false) at c.loop-part.invariant

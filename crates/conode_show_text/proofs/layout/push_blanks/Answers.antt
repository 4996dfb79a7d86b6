use Rattle.conode_show_text.proofs.Steps.{replicated_more}
use Rattle.conode_show_text.proofs.layout.push_blanks.Goals as goal

pub loop-blank-preserved : goal.loop-blank-preserved
loop-blank-preserved c = replicated_more 32 c.loop-blank._blank _ _ _ c.loop-blank.invariant c.in-Ok.ensures.items

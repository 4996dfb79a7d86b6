use Rattle.conode_trace.proofs.ProgressLemmas.{next_is_long}
use Rattle.conode_trace.proofs.trace_progress.TraceProgress.too_long.Goals as goal

pub returns : goal.returns
returns c = λ line more long. next_is_long c.args.self.now c.self.inside.number c.self.inside.clock line more c.self.view_is long

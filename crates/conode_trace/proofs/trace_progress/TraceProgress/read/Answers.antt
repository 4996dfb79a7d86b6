use Rattle.std.proofs.Common.{refl, sym}
use Rattle.conode_trace.proofs.ProgressLemmas.{next_is_good, next_is_bad}
use Rattle.conode_trace.proofs.trace_progress.TraceProgress.read.Goals as goal

pub returns-in_default-clause-bad : goal.returns-in_default-clause-bad
returns-in_default-clause-bad c = λ more. next_is_bad c.args.self.now c.self.inside.number c.self.inside.clock c.args.line.now more c.self.view_is (sym c.in_default.ensures.exact)

pub returns-clause-line : goal.returns-clause-line
returns-clause-line c = λ more. next_is_good c.args.self.now _ c.self.inside.number c.self.inside.clock c.read.new.clock c.args.line.now more c.in-Some.timed c.self.view_is refl (sym c.in-Some.ensures.exact)

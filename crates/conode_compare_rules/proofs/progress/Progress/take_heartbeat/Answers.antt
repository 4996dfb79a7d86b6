-- What is found at a heartbeat that shows that a request isn't answered: that, and what the heartbeat has itself.
use Rattle.std.proofs.Common.{refl}
use Rattle.conode_compare_rules.specs.NmtFrames.{control_findings}
use Rattle.conode_compare_rules.proofs.progress.Progress.take_heartbeat.Goals as goal

pub returns-then-is_some-clause-findings : goal.returns-then-is_some-clause-findings
unfolding control_findings
returns-then-is_some-clause-findings c = rw (c.heartbeat_findings-findings.ensures, c.silence_finding-answer.ensures) refl

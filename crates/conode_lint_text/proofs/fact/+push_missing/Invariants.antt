use Rattle.std.proofs.Common.{length}
use Rattle.conode_lint_text.proofs.fact.+push_missing.Given as goal

abbrev pub decreases-push_missing : goal.decreases-push_missing
decreases-push_missing l = length l.keys.now

use Rattle.std.proofs.Common.{◌≡◌, true, false}
use Rattle.conode_stats_text.specs.Findings.{is_listed}
use Rattle.conode_stats_text.proofs.Listed.{left, nothing, taken}
use Rattle.conode_stats_text.proofs.wrong.push_listed.Goals as goal

pub returns-then-pass : goal.returns-then-pass
returns-then-pass c =
    let listed : is_listed c.args.excerpt.now ≡ true = cc in
    rw c.in-Some.is (taken _ _ _ _ _ listed c.push_finding.ensures c.pass.ensures.seen)

pub returns-else-pass : goal.returns-else-pass
returns-else-pass c =
    let other : is_listed c.args.excerpt.now ≡ false = cc in
    rw c.in-Some.is (left _ _ _ _ other c.pass.ensures.seen)

pub returns-in_default : goal.returns-in_default
returns-in_default c = rw c.in_default.is (nothing _ _)

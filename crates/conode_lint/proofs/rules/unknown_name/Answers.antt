use denote.Ref.{Bor}
use Rattle.std.proofs.Common.{ℕ, List}
use Rattle.conode_lint.proofs.RuleLemmas.{listed}
use Rattle.conode_lint.proofs.rules.unknown_name.Goals as goal

pub returns-then-not-is_known-clause-among : goal.returns-then-not-is_known-clause-among
returns-then-not-is_known-clause-among c = listed (λ (one : Bor (List ℕ)). one.now) c.args.names.now c.loop-name.name-index _ c.loop-name-test.true

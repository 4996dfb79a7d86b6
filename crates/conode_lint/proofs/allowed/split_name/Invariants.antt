use Rattle.std.proofs.Common.{◌≡◌, ℕ, ◌<◌, false}
use Rattle.std.specs.Prelude.{get_or}
use Rattle.conode_lint.specs.Allowed.{is_comma}
use Rattle.conode_lint.proofs.allowed.split_name.Given as goal

-- no byte so far is one
abbrev pub invariant-loop-place : goal.invariant-loop-place
invariant-loop-place l = (k : ℕ) → k < l.place → is_comma (get_or l.text k 0) ≡ false

use Rattle.std.proofs.Common.{◌≡◌, drop}
use Rattle.std.specs.List.{list_any}
use Rattle.conode_explain_cob_ids.specs.Claims.{may_be_shown}
use Rattle.conode_explain_cob_ids.proofs.claim.any_may_be_shown.Given as goal

-- it is none of those so far
abbrev pub invariant-loop-pdo : goal.invariant-loop-pdo
invariant-loop-pdo l = list_any (may_be_shown l.id) (drop l.pdo-index l.pdos) ≡ list_any (may_be_shown l.id) l.pdos

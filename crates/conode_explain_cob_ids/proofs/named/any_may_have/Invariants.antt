use Rattle.std.proofs.Common.{◌≡◌, drop}
use Rattle.std.specs.List.{list_any}
use Rattle.conode_explain_cob_ids.specs.Named.{may_have}
use Rattle.conode_explain_cob_ids.proofs.named.any_may_have.Given as goal

-- it is none of those so far
abbrev pub invariant-loop-pdo : goal.invariant-loop-pdo
invariant-loop-pdo l = list_any (may_have l.only l.id) (drop l.pdo-index l.pdos) ≡ list_any (may_have l.only l.id) l.pdos

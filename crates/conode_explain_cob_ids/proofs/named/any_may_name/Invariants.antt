use Rattle.std.proofs.Common.{◌≡◌, drop}
use Rattle.std.specs.List.{list_any}
use Rattle.conode_explain_cob_ids.specs.Named.{may_name}
use Rattle.conode_explain_cob_ids.proofs.named.any_may_name.Given as goal

-- it is none of those so far
abbrev pub invariant-loop-service : goal.invariant-loop-service
invariant-loop-service l = list_any (may_name l.only l.id) (drop l.service-index l.services) ≡ list_any (may_name l.only l.id) l.services

use Rattle.std.proofs.Common.{◌≡◌, drop}
use Rattle.conode_explain_cob_ids.specs.ServiceIds.{word_of}
use Rattle.conode_explain_cob_ids.proofs.service_ids.word_of.Given as goal

-- it is none of those so far
abbrev pub invariant-loop-service : goal.invariant-loop-service
invariant-loop-service l = word_of (drop l.service-index l.services) l.index l.node ≡ word_of l.services l.index l.node

use Rattle.std.proofs.Common.{◌≡◌}
use Rattle.conode_explain_cob_ids.specs.Named.{named_below}
use Rattle.conode_explain_cob_ids.proofs.named.named_below.Given as goal

-- those so far
abbrev pub invariant-loop-id : goal.invariant-loop-id
invariant-loop-id l = l.named.items ≡ named_below l.only l.pdos l.services l.id

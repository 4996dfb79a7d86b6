use Rattle.std.proofs.Common.{◌≡◌, drop}
use Rattle.std.specs.List.{list_any}
use Rattle.conode_explain.specs.Filtered.{passes_as}
use Rattle.conode_explain.proofs.filtered.passes_as_any.Given as goal

-- it passes as none of those so far
abbrev pub invariant-loop-claim : goal.invariant-loop-claim
invariant-loop-claim l =
    list_any (passes_as l.filter l.times l.frame) (drop l.claim-index l.claims) ≡ list_any (passes_as l.filter l.times l.frame) l.claims

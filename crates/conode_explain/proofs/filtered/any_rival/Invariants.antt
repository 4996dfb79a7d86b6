use Rattle.std.proofs.Common.{◌≡◌, drop}
use Rattle.std.specs.List.{list_any}
use Rattle.conode_explain.specs.Filtered.{is_rival}
use Rattle.conode_explain.proofs.filtered.any_rival.Given as goal

-- none of those so far is one
abbrev pub invariant-loop-claim : goal.invariant-loop-claim
invariant-loop-claim l = list_any (is_rival l.first) (drop l.claim-index l.claims) ≡ list_any (is_rival l.first) l.claims

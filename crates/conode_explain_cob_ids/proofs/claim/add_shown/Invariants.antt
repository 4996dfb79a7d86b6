use Rattle.std.proofs.Common.{◌≡◌, ◌++◌, drop}
use Rattle.std.specs.List.{filter_map}
use Rattle.conode_explain_cob_ids.specs.Buses.{bus_view}
use Rattle.conode_explain_cob_ids.specs.Claims.{shown_claim}
use Rattle.conode_explain_cob_ids.proofs.claim.add_shown.Given as goal

-- those so far, and after them those of the rest
abbrev pub invariant-loop-pdo : goal.invariant-loop-pdo
invariant-loop-pdo l =
    l.claims.items ++ filter_map (shown_claim (bus_view l.bus) l.range l.id) (drop l.pdo-index l.pdos)
    ≡ l.fn.claims.items ++ filter_map (shown_claim (bus_view l.bus) l.range l.id) l.pdos

use Rattle.std.proofs.Common.{◌≡◌, ◌++◌, [], map, take, drop}
use Rattle.conode_explain_cob_ids.specs.Buses.{bus_view}
use Rattle.conode_explain_cob_ids.specs.Claims.{sheets_claims}
use Rattle.conode_explain_cob_ids.specs.Known.{known_view}
use Rattle.conode_explain_cob_ids.proofs.claim.add_sheets.Given as goal

-- those of the sheets so far, and after them those of the rest
abbrev pub invariant-loop-place : goal.invariant-loop-place
invariant-loop-place l =
    l.claims.items ++ sheets_claims (bus_view l.bus) l.range l.id (map known_view (take l.place l.sheets)) (map known_view (drop l.place l.sheets))
    ≡ l.fn.claims.items ++ sheets_claims (bus_view l.bus) l.range l.id [] (map known_view l.sheets)

use Rattle.std.proofs.Common.{◌≡◌, ◌++◌, drop, map}
use Rattle.std.specs.List.{filter_map}
use Rattle.conode_explain_cob_ids.specs.Buses.{bus_view}
use Rattle.co_sheet_changes.specs.Names.{names_view}
use Rattle.conode_explain_cob_ids.specs.Claims.{sheet_claim}
use Rattle.conode_explain_cob_ids.specs.Known.{known_view}
use Rattle.conode_explain_cob_ids.proofs.claim.add_pdos_of.Given as goal

-- those so far, and after them those of the rest
abbrev pub invariant-loop-pdo : goal.invariant-loop-pdo
invariant-loop-pdo l =
    l.claims.items ++ filter_map (sheet_claim (bus_view l.bus) (map known_view l.earlier) (names_view l.sheet.names).only l.range l.id) (drop l.pdo-index l.pdos)
    ≡ l.fn.claims.items ++ filter_map (sheet_claim (bus_view l.bus) (map known_view l.earlier) (names_view l.sheet.names).only l.range l.id) l.pdos

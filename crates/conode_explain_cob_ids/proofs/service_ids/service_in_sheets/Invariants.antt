use Rattle.std.proofs.Common.{◌≡◌, drop, map}
use Rattle.std.specs.List.{filter_map}
use Rattle.conode_explain_cob_ids.specs.Buses.{bus_view}
use Rattle.conode_explain_cob_ids.specs.Known.{known_view}
use Rattle.conode_explain_cob_ids.specs.ServiceIds.{first_service, service_on}
use Rattle.conode_explain_cob_ids.proofs.service_ids.service_in_sheets.Given as goal

-- it is none of those so far
abbrev pub invariant-loop-sheet : goal.invariant-loop-sheet
invariant-loop-sheet l =
    first_service (filter_map (service_on (bus_view l.bus) l.id) (map known_view (drop l.sheet-index l.sheets)))
    ≡ first_service (filter_map (service_on (bus_view l.bus) l.id) (map known_view l.sheets))

use Rattle.std.proofs.Common.{◌≡◌, drop}
use Rattle.std.specs.List.{filter_map}
use Rattle.conode_explain_cob_ids.specs.Buses.{bus_view}
use Rattle.conode_explain_cob_ids.specs.ServiceIds.{first_service, service_by_sheet}
use Rattle.conode_explain_cob_ids.proofs.service_ids.service_among.Given as goal

-- it is none of those so far
abbrev pub invariant-loop-service : goal.invariant-loop-service
invariant-loop-service l =
    first_service (filter_map (service_by_sheet (bus_view l.bus) l.id l.only) (drop l.service-index l.services))
    ≡ first_service (filter_map (service_by_sheet (bus_view l.bus) l.id l.only) l.services)

use Rattle.std.proofs.Common.{◌≡◌, drop}
use Rattle.std.specs.List.{filter_map}
use Rattle.conode_explain_cob_ids.specs.Buses.{bus_view}
use Rattle.conode_explain_cob_ids.specs.ServiceIds.{first_service, service_by_shown}
use Rattle.conode_explain_cob_ids.proofs.service_ids.service_in_shown.Given as goal

-- it is none of those so far
abbrev pub invariant-loop-shown : goal.invariant-loop-shown
invariant-loop-shown l =
    first_service (filter_map (service_by_shown (bus_view l.bus) l.id) (drop l.shown-index l.pdos))
    ≡ first_service (filter_map (service_by_shown (bus_view l.bus) l.id) l.pdos)

use Rattle.std.proofs.Common.{◌≡◌, drop}
use Rattle.std.specs.List.{filter_map}
use Rattle.conode_explain_cob_ids.specs.Buses.{bus_view}
use Rattle.conode_explain_forms.specs.Places.{first_of, place_by_shown}
use Rattle.conode_explain_forms.proofs.places.place_in_shown.Given as goal

-- it is none of those so far
abbrev pub invariant-loop-shown : goal.invariant-loop-shown
invariant-loop-shown l =
    first_of (filter_map (place_by_shown (bus_view l.bus) l.id) (drop l.shown-index l.pdos))
    ≡ first_of (filter_map (place_by_shown (bus_view l.bus) l.id) l.pdos)

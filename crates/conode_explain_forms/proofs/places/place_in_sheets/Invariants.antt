use Rattle.std.proofs.Common.{◌≡◌, drop}
use Rattle.std.specs.List.{filter_map}
use Rattle.conode_explain_cob_ids.specs.Buses.{bus_view}
use Rattle.conode_explain_forms.specs.Places.{first_of, place_by_sheet}
use Rattle.conode_explain_forms.proofs.places.place_in_sheets.Given as goal

-- it is none of those so far
abbrev pub invariant-loop-channel : goal.invariant-loop-channel
invariant-loop-channel l =
    first_of (filter_map (place_by_sheet (bus_view l.bus) l.id) (drop l.channel-index l.channels))
    ≡ first_of (filter_map (place_by_sheet (bus_view l.bus) l.id) l.channels)

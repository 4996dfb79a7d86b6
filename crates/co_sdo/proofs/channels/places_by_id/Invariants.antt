use Rattle.std.proofs.Common.{◌≡◌}
use Rattle.co_sdo.specs.Banks.{all_settings, places_below}
use Rattle.co_sdo.proofs.channels.places_by_id.Given as goal

-- the places of the identifiers below this one
abbrev pub invariant-loop-id : goal.invariant-loop-id
invariant-loop-id l = l.places.items ≡ places_below l.id (all_settings l.bank)

use Rattle.std.proofs.Common.{arith}
use Rattle.conode_explain_cob_ids.specs.Buses.{bus_view}
use Rattle.conode_explain_cob_ids.proofs.NothingNamed.{was_not}
use Rattle.conode_explain_forms.proofs.NoPlaces.{no_place}
use Rattle.conode_explain_forms.proofs.places.are_default.Goals as goal

pub returns : goal.returns
returns c = λ yes.
    no_place (bus_view c.args.bus) c.args.channels.now c.requires (omega arith)
    (rw (← c.shown.ensures, ← c.shows_more.ensures) (was_not c.shows_more.result yes))

use Rattle.std.proofs.Common.{◌∙◌}
use Rattle.co_sdo.proofs.Places.{no_places, places_more}
use Rattle.co_sdo.proofs.channels.places_by_id.Goals as goal

pub loop-id-init : goal.loop-id-init
loop-id-init c = no_places c.args.bank.now c.in_ok-places.places.items c.in_ok-places.ensures.items

pub loop-id-preserved : goal.loop-id-preserved
loop-id-preserved c = c.in_ok-push.ensures.items ∙ places_more c.loop-id.places.items c.args.bank.now c.loop-id.id c.receiver_byte.result c.loop-id.invariant c.receiver_byte.ensures

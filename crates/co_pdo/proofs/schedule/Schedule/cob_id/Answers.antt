use Rattle.std.proofs.Common.{◌∙◌, arith}
use Rattle.co_pdo.proofs.Histories.{places_of_number}
use Rattle.co_pdo.proofs.schedule.Schedule.cob_id.Goals as goal

pub returns-in-Some : goal.returns-in-Some
returns-in-Some g c = λ history given.
    c.cob_id.ensures c.args.k c.get-number.ensures.small
    (c.index.ensures
    ∙ places_of_number _ c.self.inside.tpdos.items.items c.self.inside.places.items.items _ history c.args.k c.self.view_is given c.deref.result.now c.from-place.result c.in-Some.tpdo.now _ c.deref.ensures.value c.in-Some.ensures.lookup.0 c.in-Some.ensures.lookup.1 (omega arith))

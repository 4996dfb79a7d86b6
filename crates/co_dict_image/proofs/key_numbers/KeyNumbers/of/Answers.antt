use Rattle.std.proofs.Common.{◌∙◌}
use Rattle.co_dict_image.proofs.Appends.{next_number}
use Rattle.co_dict_image.proofs.key_numbers.KeyNumbers.of.Goals as goal

pub loop-slot-preserved : goal.loop-slot-preserved
loop-slot-preserved c =
    c.in_ok-insert.ensures.keys
    ∙ next_number c.args.slots.now c.requires c.loop-slot.slot-index c.slot-item.result c.loop-slot-test.true c.slot-item.is c.loop-slot.keys.keys c.loop-slot.invariant

-- One object more, and the end of the mapping.
use Rattle.std.proofs.Common.{◌∙◌, None, sym}
use Rattle.conode_compare_values.proofs.Objects.{brought_end, brought_turn}
use Rattle.conode_compare_values.proofs.rpdo_writes.objects_bring.Goals as goal

pub loop-place-preserved : goal.loop-place-preserved
loop-place-preserved c =
    let turn = brought_turn c.args.entry.now c.args.count c.loop-place.place c.args.objects.now c.loop-place.rest.now c.loop-place.brought None c.loop-place-test.true in
    rw (c.with_brought-brought.ensures, c.later_bytes-rest.ensures, c.object_bytes.ensures) (sym turn ∙ c.loop-place.invariant)

pub returns : goal.returns
returns c =
    sym (brought_end c.args.entry.now c.args.count c.loop-place.place c.args.objects.now c.loop-place.rest.now c.loop-place.brought c.loop-place-test.false) ∙ c.loop-place.invariant

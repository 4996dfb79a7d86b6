-- One entry more.
use Rattle.std.proofs.Common.{◌∙◌, ◌<◌, length, sym}
use Rattle.conode_compare_values.proofs.Objects.{settled_turn}
use Rattle.conode_compare_values.proofs.rpdo_writes.RpdoWrites.settle.Goals as goal

pub loop-place-preserved : goal.loop-place-preserved
loop-place-preserved c =
    let within : c.loop-place.place < length c.args.held.now.entries.items = rw (sym c.as_slice-items.ensures.value) c.loop-place-test.true in
    let turn = settled_turn c.args.tolerance c.args.operational c.loop-place.place c.args.held.now.entries.items c.loop-place.self within in
    rw c.settle_at.ensures (sym turn ∙ c.loop-place.invariant)

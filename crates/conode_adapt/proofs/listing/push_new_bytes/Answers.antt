use Rattle.conode_adapt.specs.Listing.{new_byte}
use Rattle.conode_adapt.proofs.LoopLemmas.{flat_added}
use Rattle.conode_adapt.proofs.listing.push_new_bytes.Goals as goal

pub loop-byte-preserved : goal.loop-byte-preserved
loop-byte-preserved c =
    flat_added new_byte c.args.bytes.now c.loop-byte.byte-index c.args.text.now.items c.loop-byte.text.items _ c.loop-byte-test.true c.loop-byte.invariant
    c.in-Ok.ensures

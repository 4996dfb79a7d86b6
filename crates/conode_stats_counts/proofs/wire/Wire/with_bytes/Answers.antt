use Rattle.std.proofs.Common.{arith, refl}
use Rattle.conode_stats_counts.proofs.Eights.{byte_first, no_more_bytes}
use Rattle.conode_stats_counts.proofs.wire.Wire.with_bytes.Goals as goal

pub loop-byte-preserved : goal.loop-byte-preserved
loop-byte-preserved c =
    let next = c.with_byte-wire.ensures in
    let few = next.few in
    let so_far = c.loop-byte.invariant in
    let room = so_far.few in
    record {
      sends = λ after rest. so_far.sends after (byte_first _ c.with_byte-wire.result after c.args.bytes.now c.loop-byte.byte-index _ c.loop-byte-test.true refl next.sends rest);
      few = omega (arith, few, room);
      run = next.run;
    }

pub returns-clause-sends : goal.returns-clause-sends
returns-clause-sends c =
    no_more_bytes _ c.args.self c.args.bytes.now c.loop-byte.byte-index c.loop-byte-test.false c.loop-byte.invariant.sends

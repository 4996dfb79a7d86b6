use Rattle.std.proofs.Common.{arith}
use Rattle.conode_stats_counts.proofs.Eights.{eight_first, no_more_bits}
use Rattle.conode_stats_counts.proofs.wire.Wire.with_number.Goals as goal

pub loop-low-preserved : goal.loop-low-preserved
loop-low-preserved c =
    let next = c.with_byte-wire.ensures in
    let few = next.few in
    let so_far = c.loop-low.invariant in
    let room = so_far.few in
    let low = so_far.low in
    let whole = so_far.whole in
    record {
      low = omega (arith, low);
      whole = omega (arith, whole);
      sends = λ after rest. so_far.sends after (eight_first c.loop-low.wire c.with_byte-wire.result after _ c.loop-low.low c.args.number (omega arith) next.sends rest);
      few = omega (arith, few, room);
      run = next.run;
    }

pub returns-clause-sends : goal.returns-clause-sends
returns-clause-sends c =
    let so_far = c.loop-low.invariant in
    no_more_bits c.loop-low.wire c.args.self c.loop-low.low c.args.count c.args.number so_far.whole (omega arith) so_far.sends

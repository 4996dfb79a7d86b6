use Rattle.std.proofs.Common.{arith}
use Rattle.co_node_parts.proofs.Slots.{emptied_all, emptied_more, rest_kept}
use Rattle.co_node_parts.proofs.rpdo_slots.empty_all.Goals as goal

pub loop-k-preserved : goal.loop-k-preserved
loop-k-preserved c =
    let before = c.loop-k.invariant in
    record {
      done = emptied_more c.loop-k.slots c.loop-k.k (omega arith) before.done;
      rest = rest_kept c.args.slots.now c.loop-k.slots c.loop-k.k before.rest;
    }

pub returns : goal.returns
returns c = emptied_all c.args.slots.now c.loop-k.slots c.args.used c.loop-k.k (omega arith) c.requires.used c.loop-k.invariant.done c.loop-k.invariant.rest

use Rattle.std.proofs.Common.{refl, arith}
use Rattle.std.proofs.lemmas.List.{take_more_set}
use Rattle.co_node_parts.proofs.Slots.{collected_used, taken_more, taken_same}
use Rattle.co_node_parts.proofs.rpdo_slots.collect.Goals as goal
use Rattle.co_node_parts.proofs.rpdo_slots.collect.Goals.{in-Some, in-None}

pub loop-k-preserved : goal.loop-k-preserved
loop-k-preserved c = let before = c.loop-k.invariant in elim c.match-slots-k.branch [
  | in-Some w ↦ rw (w.taken-is, w.count-is) (record {
    few = omega arith;
    taken = taken_more c.args.slots.now c.loop-k.k _ _ w.in-Some.frame _ _ (omega arith) w.in-Some.is w.of-number.ensures before.taken (take_more_set c.loop-k.taken c.loop-k.count _ (omega arith));
  })
  | in-None w ↦ rw (w.taken-is, w.count-is) (record {
    few = omega arith;
    taken = taken_same c.args.slots.now c.loop-k.k _ _ _ (omega arith) w.in-None.is before.taken refl;
  })
]

pub returns-clause-taken : goal.returns-clause-taken
returns-clause-taken c =
    collected_used c.args.used c.loop-k.k c.args.slots.now _ (omega arith) c.requires.within c.requires.used c.loop-k.invariant.taken

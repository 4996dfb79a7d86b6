use Rattle.std.proofs.Common.{◌≡◌, ◌≤◌, get_or, take}
use Rattle.std.specs.Prelude.{None}
use Rattle.std.specs.List.{filter_map, range_with_len}
use Rattle.co_node_parts.specs.RpdoSlots.{numbered}
use Rattle.co_node_parts.proofs.rpdo_slots.collect.Given as goal

-- the frames before the index are taken
abbrev pub invariant-loop-k : goal.invariant-loop-k
invariant-loop-k l = record {
  few : l.count ≤ l.k;
  taken : take l.count l.taken ≡ filter_map (λ k. numbered k (get_or l.slots k None)) (range_with_len 0 l.k);
}

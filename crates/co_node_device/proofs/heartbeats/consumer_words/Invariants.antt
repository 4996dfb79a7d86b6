use Rattle.std.proofs.Common.{◌≡◌, ◌-◌}
use Rattle.std.specs.Prelude.{map}
use Rattle.std.specs.List.{range_with_len}
use Rattle.co_dict.specs.Rows.{number_at}
use Rattle.co_dict.specs.ConsumerHeartbeats.{consumer_key}
use Rattle.arrayvec.specs.ArrayVec.{array_vec_len}
use Rattle.co_node_device.proofs.heartbeats.consumer_words.Given as goal

-- the words of the sub-indices so far
abbrev pub invariant-loop-sub : goal.invariant-loop-sub
invariant-loop-sub g l = record {
  count : array_vec_len l.words ≡ l.sub - 1;
  words : l.words.items ≡ map (λ sub. number_at (g.S.ObjectStore.contents l.store) (consumer_key sub)) (range_with_len 1 (l.sub - 1));
}

use Rattle.std.proofs.Common.{◌≡◌, ℕ, ◌<◌, ◌≤◌, [], map, get_or, length, vec_len, vec_capacity}
use Rattle.std.specs.List.{filter, range_with_len}
use Rattle.co_pdo.specs.declared.tpdo.Tpdo.{Tpdo}
use Rattle.co_pdo.specs.Tpdos.{has_tpdo}
use Rattle.co_pdo.specs.Countdowns.{IsAfter}
use Rattle.co_pdo.proofs.tpdos.tpdos_in.Given as goal

-- those of the numbers below k are there
abbrev pub invariant-loop-k : goal.invariant-loop-k
invariant-loop-k g l = record {
  room : vec_capacity l.tpdos ≡ 512;
  few : vec_len l.tpdos ≤ l.k;
  numbers : map (λ t. t.number) l.tpdos.items ≡ filter (has_tpdo (g.S.ObjectStore.description l.store).rows) (range_with_len 0 l.k);
  after : (i : ℕ) (d : Tpdo) → i < length l.tpdos.items → IsAfter (get_or l.tpdos.items i d) [];
  small : (i : ℕ) (d : Tpdo) → i < length l.tpdos.items → (get_or l.tpdos.items i d).number < 512;
}

use Rattle.std.proofs.Common.{◌≡◌, length, map, take, vec_len, vec_capacity}
use Rattle.co_pdo.specs.Tpdos.{places_of}
use Rattle.co_pdo.proofs.tpdos.places_in.Given as goal

-- the places of the TPDOs before the index are there
abbrev pub invariant-loop-tpdo : goal.invariant-loop-tpdo
invariant-loop-tpdo g l = record {
  room : vec_capacity l.places ≡ length l.fn.tpdos;
  count : vec_len l.places ≡ l.tpdo-index;
  same : l.places.items ≡ map (places_of (g.S.ObjectStore.description l.fn.store)) (take l.tpdo-index (map (λ t. t.number) l.fn.tpdos));
}

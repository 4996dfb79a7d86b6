use Rattle.std.proofs.Common.{◌≡◌, ℕ, ◌<◌, ◌≤◌, map, get_or}
use Rattle.co_pdo.specs.declared.tpdo.Tpdo.{Tpdo}
use Rattle.co_pdo.specs.Log.{Log}
use Rattle.co_pdo.specs.Countdowns.{IsAfter}
use Rattle.co_pdo.specs.Schedules.{ArePlaces, AllAfter, with_whole_start}
use Rattle.co_pdo.proofs.tpdos.all_start.Given as goal

-- the TPDOs before the index were started, and the others are as they were
abbrev pub invariant-loop-i : goal.invariant-loop-i
invariant-loop-i g l = record {
  numbers : map (λ t. t.number) l.tpdos ≡ map (λ t. t.number) l.fn.tpdos;
  rest : (j : ℕ) (d : Tpdo) → l.i ≤ j → get_or l.tpdos j d ≡ get_or l.fn.tpdos j d;
  done : (logs : ℕ → Log) → ArePlaces (g.S.ObjectStore.description l.fn.store) (map (λ t. t.number) l.fn.tpdos) l.fn.places → AllAfter l.fn.tpdos logs
      → (j : ℕ) (d : Tpdo) → j < l.i → IsAfter (get_or l.tpdos j d) (with_whole_start (g.S.ObjectStore.contents l.fn.store) logs (get_or l.fn.tpdos j d).number);
}

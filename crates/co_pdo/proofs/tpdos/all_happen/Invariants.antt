use Rattle.std.proofs.Common.{◌≡◌, ℕ, ◌<◌, ◌≤◌, map, take, get_or, length}
use Rattle.std.specs.List.{filter}
use Rattle.co_pdo.specs.declared.tpdo.Tpdo.{Tpdo}
use Rattle.co_pdo.specs.Tpdos.{settings_of}
use Rattle.co_pdo.specs.Log.{Log}
use Rattle.co_pdo.specs.Due.{is_due}
use Rattle.co_pdo.specs.Countdowns.{IsAfter}
use Rattle.co_pdo.specs.Schedules.{ArePlaces, AllAfter, AllCurrentAfter, with_occasion}
use Rattle.co_pdo.proofs.tpdos.all_happen.Given as goal

-- the TPDOs before the index have the countdowns after the longer logs, the others are as they were, and the due ones
-- before it are answered
abbrev pub invariant-loop-i : goal.invariant-loop-i
invariant-loop-i g l = record {
  few : length l.sent.items ≤ l.i;
  numbers : map (λ t. t.number) l.tpdos ≡ map (λ t. t.number) l.fn.tpdos;
  rest : (j : ℕ) (d : Tpdo) → l.i ≤ j → get_or l.tpdos j d ≡ get_or l.fn.tpdos j d;
  due : (logs : ℕ → Log) → ArePlaces (g.S.ObjectStore.description l.fn.store) (map (λ t. t.number) l.fn.tpdos) l.fn.places → AllAfter l.fn.tpdos logs → AllCurrentAfter (g.S.ObjectStore.contents l.fn.store) logs
      → l.sent.items ≡ filter (λ k. is_due (settings_of (g.S.ObjectStore.contents l.fn.store) k) (logs k) l.occasion) (take l.i (map (λ t. t.number) l.fn.tpdos));
  done : (logs : ℕ → Log) → ArePlaces (g.S.ObjectStore.description l.fn.store) (map (λ t. t.number) l.fn.tpdos) l.fn.places → AllAfter l.fn.tpdos logs → AllCurrentAfter (g.S.ObjectStore.contents l.fn.store) logs
      → (j : ℕ) (d : Tpdo) → j < l.i → IsAfter (get_or l.tpdos j d) (with_occasion (g.S.ObjectStore.contents l.fn.store) l.occasion logs (get_or l.fn.tpdos j d).number);
}

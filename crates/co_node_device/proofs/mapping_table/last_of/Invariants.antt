use Rattle.std.proofs.Common.{◌≡◌, ℕ, ◌+◌, ◌<◌, true}
use Rattle.co_profile.specs.PdoNumbers.{count_to}
use Rattle.co_pdo.specs.Mappings.{has_pdo}
use Rattle.co_node_device.proofs.mapping_table.last_of.Given as goal

-- those below k that are there are up to the last, and that one is there
abbrev pub invariant-loop-k : goal.invariant-loop-k
invariant-loop-k g l = record {
  covers : (j : ℕ) → j < l.k → has_pdo l.side (g.S.ObjectStore.description l.store).rows j ≡ true → j < count_to l.last;
  last : (j : ℕ) → j + 1 ≡ count_to l.last → has_pdo l.side (g.S.ObjectStore.description l.store).rows j ≡ true;
}

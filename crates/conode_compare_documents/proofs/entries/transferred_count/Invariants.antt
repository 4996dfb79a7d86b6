use Rattle.std.proofs.Common.{◌≡◌, ◌≤◌, take}
use Rattle.conode_compare_documents.specs.Coverage.{transferred_count}
use Rattle.conode_compare_documents.proofs.entries.transferred_count.Given as goal

abbrev pub invariant-loop-covered : goal.invariant-loop-covered
invariant-loop-covered l = record {
  value : l.count ≡ transferred_count (take l.covered-index l.entries);
  bound : l.count ≤ l.covered-index;
}

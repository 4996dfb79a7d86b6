use Rattle.std.proofs.Common.{◌≡◌, count_by, take}
use Rattle.conode_compare_documents.specs.JunitDocument.{is_failed, is_skipped}
use Rattle.conode_compare_documents.proofs.junit_text.counts_of.Given as goal

abbrev pub invariant-loop-counted : goal.invariant-loop-counted
invariant-loop-counted l = record {
  failed : l.failed ≡ count_by is_failed (take l.counted-index l.kinds);
  skipped : l.skipped ≡ count_by is_skipped (take l.counted-index l.kinds);
}

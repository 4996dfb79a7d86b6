-- One kind more.
use Rattle.std.proofs.Common.{◌∙◌, ◌+◌, ap, sym}
use Rattle.std.proofs.lemmas.List.Sums.{count_by_more_no, count_by_more_yes}
use Rattle.conode_compare_documents.specs.JunitDocument.{is_failed, is_skipped}
use Rattle.conode_compare_documents.proofs.junit_text.counts_of.Goals.{then-is_failed, else-is_failed, then-is_skipped, else-is_skipped}
use Rattle.conode_compare_documents.proofs.junit_text.counts_of.Goals as goal

pub loop-counted-preserved : goal.loop-counted-preserved
loop-counted-preserved c = record {
  failed = elim c.if-is_failed.branch [
    | then-is_failed w ↦
        w.failed-is ∙ ap (λ n. n + 1) c.loop-counted.invariant.failed
        ∙ sym (count_by_more_yes is_failed c.args.kinds.now c.loop-counted.counted-index _ c.loop-counted-test.true (sym c.is_failed.ensures ∙ w.if-is_failed.true))
    | else-is_failed w ↦
        w.failed-is ∙ c.loop-counted.invariant.failed
        ∙ sym (count_by_more_no is_failed c.args.kinds.now c.loop-counted.counted-index _ c.loop-counted-test.true (sym c.is_failed.ensures ∙ w.if-is_failed.false))
  ];
  skipped = elim c.if-is_skipped.branch [
    | then-is_skipped w ↦
        w.skipped-is ∙ ap (λ n. n + 1) c.loop-counted.invariant.skipped
        ∙ sym (count_by_more_yes is_skipped c.args.kinds.now c.loop-counted.counted-index _ c.loop-counted-test.true (sym c.is_skipped.ensures ∙ w.if-is_skipped.true))
    | else-is_skipped w ↦
        w.skipped-is ∙ c.loop-counted.invariant.skipped
        ∙ sym (count_by_more_no is_skipped c.args.kinds.now c.loop-counted.counted-index _ c.loop-counted-test.true (sym c.is_skipped.ensures ∙ w.if-is_skipped.false))
  ];
}

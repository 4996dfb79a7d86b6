-- One pair after another.
use Rattle.std.proofs.Common.{sym, ltb-true, ltb-false}
use Rattle.co_sheet.specs.SheetViews.{row_view}
use Rattle.conode_json.proofs.Appending.{nothing}
use Rattle.conode_compare_documents.specs.CoverageTokens.{entry_tokens}
use Rattle.conode_compare_documents.proofs.Pairs.{no_left, no_more, one_more}
use Rattle.conode_compare_documents.proofs.json_coverage.put_rows.Goals.{in-Some, in_default}
use Rattle.conode_compare_documents.proofs.json_coverage.put_rows.Goals as goal

pub loop-place-init : goal.loop-place-init
loop-place-init c = nothing _

pub loop-place-preserved : goal.loop-place-preserved
loop-place-preserved c = elim c.match-get.branch [
  | in-Some w ↦
      rw w.document-is (one_more entry_tokens row_view c.args.rows.now c.args.covered.now c.loop-place.place _ w.in-Some.covered.now
      c.loop-place-test.true (ltb-true _ _ (sym w.in-Some.ensures.lookup.0)) w.in-Some.ensures.lookup.1 c.loop-place.invariant w.put_entry.ensures)
  | in_default w ↦
      rw w.document-is (no_more entry_tokens row_view c.args.rows.now c.args.covered.now c.loop-place.place
      c.loop-place-test.true (ltb-false _ _ (sym w.in_default.ensures.lookup.0)) c.loop-place.invariant)
]

pub returns : goal.returns
returns c = no_left entry_tokens row_view c.args.rows.now c.args.covered.now c.loop-place.place c.loop-place-test.false c.loop-place.invariant

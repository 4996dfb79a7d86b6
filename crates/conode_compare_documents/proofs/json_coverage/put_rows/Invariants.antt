use Rattle.std.proofs.Common.{map, take, zip}
use Rattle.std.specs.List.{flat_map}
use Rattle.co_sheet.specs.SheetViews.{row_view}
use Rattle.conode_json.specs.Appended.{Appended}
use Rattle.conode_compare_documents.specs.CoverageTokens.{entry_tokens}
use Rattle.conode_compare_documents.proofs.json_coverage.put_rows.Given as goal

abbrev pub invariant-loop-place : goal.invariant-loop-place
invariant-loop-place l = Appended l.fn.document (flat_map entry_tokens (zip (map row_view (take l.place l.rows)) (take l.place l.covered))) l.document

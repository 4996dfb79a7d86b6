use Rattle.std.proofs.Common.{ℕ, List, Option, drop, map}
use Rattle.conode_json.specs.Appended.{Appended}
use Rattle.co_sheet.specs.SheetViews.{row_view}
use Rattle.conode_compare_documents.specs.Indexed.{indexed}
use Rattle.conode_compare_documents.specs.Coverage.{entry_item}
use Rattle.conode_compare_documents.proofs.entries.push_items.Given as goal

abbrev pub invariant-loop-at : goal.invariant-loop-at
invariant-loop-at l = (end : Option (List ℕ)) → Appended l.page (indexed (entry_item l.transferred l.entries) l.at (map row_view (drop l.at l.rows))) end → Appended l.fn.page (indexed (entry_item l.transferred l.entries) 0 (map row_view l.rows)) end

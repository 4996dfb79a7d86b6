use Rattle.std.proofs.Common.{◌≡◌, length, map}
use Rattle.co_sheet.specs.SheetViews.{row_view}
use Rattle.conode_explain_cob_ids.specs.Sheets.{words_at}
use Rattle.conode_explain_cob_ids.proofs.sheet.words_at.Given as goal

abbrev pub invariant-loop-count : goal.invariant-loop-count
invariant-loop-count l = (l.words.items ≡ words_at (map row_view l.rows) l.index l.count) × (length l.words.items ≡ l.count)

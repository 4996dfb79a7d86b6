-- One after another.
use Rattle.co_sheet.specs.SheetViews.{row_view}
use Rattle.conode_compare_documents.specs.Coverage.{entry_item}
use Rattle.conode_compare_documents.proofs.Enumerated.{last_viewed, next_viewed}
use Rattle.conode_compare_documents.proofs.entries.push_items.Goals as goal

pub loop-at-init : goal.loop-at-init
loop-at-init c = λ end rest. rest

pub loop-at-preserved : goal.loop-at-preserved
loop-at-preserved c = next_viewed row_view (entry_item c.args.transferred c.args.entries.now) c.args.rows.now c.loop-at.at _ c.loop-at-test.true c.loop-at.invariant c.push_item.ensures

pub returns : goal.returns
returns c = (last_viewed row_view (entry_item c.args.transferred c.args.entries.now) c.args.rows.now c.loop-at.at c.loop-at-test.false c.loop-at.invariant)

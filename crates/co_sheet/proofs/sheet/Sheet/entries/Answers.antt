use Rattle.std.proofs.Common.{ap, map}
use Rattle.co_sheet.specs.SheetViews.{row_view}
use Rattle.co_sheet.specs.SheetLaws.{IsSheetRow, IsRowBefore}
use Rattle.co_sheet.proofs.ViewLemmas.{all-viewed, pairs-viewed}
use Rattle.co_sheet.proofs.sheet.Sheet.entries.Goals as goal

pub returns-clause-each : goal.returns-clause-each
returns-clause-each c =
    all-viewed row_view IsSheetRow c.as_slice.result.now (map row_view c.self.inside.lists.entries.items) (ap (map row_view) c.as_slice.ensures.value) c.self.invariant.each_row

pub returns-clause-increase : goal.returns-clause-increase
returns-clause-increase c =
    pairs-viewed row_view IsRowBefore c.as_slice.result.now (map row_view c.self.inside.lists.entries.items) (ap (map row_view) c.as_slice.ensures.value) c.self.invariant.keys_increase

use Rattle.std.proofs.Common.{ap, map}
use Rattle.co_sheet.specs.SheetViews.{object_row_view}
use Rattle.co_sheet.specs.SheetLaws.{IsObjectBefore}
use Rattle.co_sheet.proofs.ViewLemmas.{pairs-viewed}
use Rattle.co_sheet.proofs.sheet.Sheet.objects.Goals as goal

pub returns-clause-increase : goal.returns-clause-increase
returns-clause-increase c =
    pairs-viewed object_row_view IsObjectBefore c.as_slice.result.now (map object_row_view c.self.inside.lists.objects.items) (ap (map object_row_view) c.as_slice.ensures.value) c.self.invariant.indices_increase

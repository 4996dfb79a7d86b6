use Rattle.std.proofs.Common.{◌≡◌, sym, subst}
use Rattle.conode_compare_report.specs.Spans.{LanesView}
use Rattle.conode_compare_report.specs.Views.{Kept}
use Rattle.conode_compare_report.specs.Widths.{seen_of, spans_of}
use Rattle.conode_compare_report.proofs.WidthLaws.{all_spans}
use Rattle.conode_compare_report.proofs.report.Report.lanes.Goals as goal

pub returns-clause-spans : goal.returns-clause-spans
returns-clause-spans c rows node happenings is fit =
    subst (λ (l : LanesView). l.bins ≡ spans_of l.begin l.width (seen_of happenings)) (sym c.kept_lanes.ensures)
    (subst (λ (k : Kept). k.lanes.bins ≡ spans_of k.lanes.begin k.lanes.width (seen_of happenings)) (sym is) (all_spans rows node happenings fit))

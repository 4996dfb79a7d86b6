use Rattle.std.proofs.Common.{◌≡◌, ◌∙◌, sym, subst}
use Rattle.std.specs.List.{Contains}
use Rattle.conode_compare_report.specs.Contexts.{around}
use Rattle.conode_compare_report.specs.Histories.{lines_of, near}
use Rattle.conode_compare_report.specs.Views.{Kept}
use Rattle.conode_compare_report.proofs.AroundLaws.{lines_around}
use Rattle.conode_compare_report.proofs.report.Report.around.Goals as goal

pub returns-clause-lines : goal.returns-clause-lines
returns-clause-lines c rows node happenings is few there =
    c.kept_around.ensures
    ∙ subst (λ (k : Kept). Contains k.noted c.args.noted.now → around k.context c.args.noted.now ≡ near c.args.noted.now.line (lines_of happenings)) (sym is)
    (lines_around rows node happenings c.args.noted.now few) there

use Rattle.std.proofs.Common.{◌∙◌, ◌++◌, List, map, ap}
use Rattle.std.proofs.lemmas.Result.{on_ok_weaker}
use Rattle.co_sheet_text.specs.Views.{section_view}
use Rattle.co_dict_build.specs.Built.{plan_of}
use Rattle.co_dict_build.specs.Capacities.{limits_view}
use Rattle.conode_lint_marks.specs.declared.mark.Mark.{Mark}
use Rattle.conode_lint_marks.proofs.PlanLemmas.{plan_known}
use Rattle.conode_lint_marks.proofs.known_marks.add_known_marks.Goals as goal

pub returns-in-Ok : goal.returns-in-Ok
returns-in-Ok c =
    let plan = plan_of c.args.node_id (limits_view c.args.limits.now) c.args.sheet.now in
    let is = plan_known _ (map section_view c.args.sections.now) c.args.kinds.now c.args.sheet.now plan _ _ c.entries.ensures.view c.in-Ok.ensures.faults c.in-Ok.ensures.mappings in
    on_ok_weaker c.add_known.result (λ h. h ∙ ap (λ (l : List Mark). c.args.marks.now.items ++ l) is) c.add_known.ensures

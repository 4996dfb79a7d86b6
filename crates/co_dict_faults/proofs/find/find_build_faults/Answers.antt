use Rattle.std.proofs.Common.{◌≡◌, List, Bool, ap, ◌∙◌, subst}
use Rattle.std.specs.Prelude.{IfOk}
use Rattle.co_sheet.specs.Content.{Row as SheetRow}
use Rattle.co_dict_build.specs.Capacities.{limits_view}
use Rattle.co_dict_build.specs.Built.{Plan, plan_with, plan_of, plan_in}
use Rattle.co_dict_faults.specs.AllBuildFaults.{mapping_faults_of}
use Rattle.co_dict_faults.proofs.find.find_build_faults.Goals as goal

pub returns-clause-mappings : goal.returns-clause-mappings
returns-clause-mappings g c =
    let limits = limits_view c.args.limits.now in
    let same : plan_in c.args.node_id c.args.limits.now c.entries.result.now c.usable_dummies.result ≡ plan_of c.args.node_id limits c.args.sheet.now =
    ap (λ (rows : List SheetRow). plan_with c.args.node_id limits rows c.usable_dummies.result) c.entries.ensures.view
    ∙ ap (λ (dummies : List Bool). plan_with c.args.node_id limits c.args.sheet.now.rows dummies) c.usable_dummies.ensures in
    let P : Plan → Type 0 = λ plan. IfOk c.find_in_rows.result (λ found. found.mappings.items ≡ mapping_faults_of plan) in
    subst P same c.find_in_rows.ensures.mappings

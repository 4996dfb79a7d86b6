-- The rows of a sheet that makes a dictionary without a fault.
use Rattle.std.proofs.Common.{◌≡◌, ◌≤◌, Bool, true, false, List, Option, Some, None, refl, map, All, subst, sym, arith}
use Rattle.std.specs.Prelude.{not, option_map}
use Rattle.std.specs.Option.{option_or}
use Rattle.std.proofs.lemmas.Bool.Decides.{nat_tests}
use Rattle.co_value.specs.declared.key.Key.{Key}
use Rattle.co_sheet_rows.specs.declared.entry.EntryRow.{EntryRow}
use Rattle.co_sheet.specs.Content.{Row as SheetRow}
use Rattle.co_sheet.specs.SheetViews.{row_view}
use Rattle.co_sheet.specs.SheetLaws.{IsSheetRow}
use Rattle.co_dict_build.specs.declared.build_fault.BuildFault.{BuildFault}
use Rattle.co_dict_build.specs.declared.build_fault.BuildFault.TheVariants.{NodeId, ValueRange}
use Rattle.co_dict_build.specs.BuildFaults.{build_fault, fault_if, is_node, value_out_of_range}
use Rattle.co_dict_build.specs.Built.{Plan}
use Rattle.co_dict_build.specs.SheetRows.{IsReady}
use Rattle.co_dict_build.proofs.Plans.{all_ready}

no_node_fault : (good : Bool) (rest : Option BuildFault) → option_or (fault_if (not good) NodeId) rest ≡ None → (good ≡ true) × (rest ≡ None)
no_node_fault true rest h = (refl, h)
no_node_fault false rest h = absurd (cc)

no_sum_fault : (key : Option Key) (rest : Option BuildFault) → option_or (option_map ValueRange key) rest ≡ None → key ≡ None
no_sum_fault None rest h = refl
no_sum_fault (Some key) rest h = absurd (cc)

pub faultless_ready : (plan : Plan) (rows : List EntryRow) → build_fault plan ≡ None → map row_view rows ≡ plan.rows → All (λ row. IsSheetRow (row_view row)) rows
    → All (λ row. IsReady plan.node (row_view row)) rows
faultless_ready plan rows none same sheets =
    let node = no_node_fault (is_node plan.node) _ none in
    let sums : value_out_of_range plan.node plan.rows ≡ None = no_sum_fault (value_out_of_range plan.node plan.rows) _ node.1 in
    let good : is_node plan.node ≡ true = node.0 in
    let last : plan.node ≤ 127 = grind (arith, nat_tests, good) in
    all_ready plan.node rows last sheets (subst (λ (them : List SheetRow). value_out_of_range plan.node them ≡ None) (sym same) sums)

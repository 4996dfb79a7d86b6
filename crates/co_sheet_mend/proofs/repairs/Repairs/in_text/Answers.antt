use Rattle.std.proofs.Common.{◌∙◌}
use Rattle.std.proofs.lemmas.Result.{IfOk-weaker}
use Rattle.co_sheet_faults.specs.AllFaults.{faults_of}
use Rattle.co_sheet_mend.proofs.RepairLemmas.{same_repairs}
use Rattle.co_sheet_mend.proofs.repairs.Repairs.in_text.Goals as goal

-- the faults that are found are those of the text, in another order
pub returns : goal.returns
returns c =
    let found = c.in_ok-faults.faults.items in
    IfOk-weaker c.of.result _ _
    (λ made is. λ line. is line ∙ (rw c.as_slice.ensures.value (same_repairs found (faults_of c.args.text.now) c.in_ok-faults.ensures.only c.in_ok-faults.ensures.all line)))
    c.of.ensures

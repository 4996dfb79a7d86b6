use Rattle.std.proofs.Common.{◌≡◌, ◌++◌, ℕ, List, ap, ◌∙◌, map}
use Rattle.std.proofs.lemmas.Result.{IfOk-equal}
use Rattle.co_sheet_changes.specs.Views.{line_view}
use Rattle.co_sheet_faults.specs.AllFaults.{faults_of}
use Rattle.co_sheet_text.specs.Text.{lines_of}
use Rattle.co_sheet_mend.specs.Repairs.{mended_by, repair_at}
use Rattle.co_sheet_mend.specs.ReadableTexts.{mended, repair_in}
use Rattle.co_sheet_mend.proofs.RepairLemmas.{same_mended}
use Rattle.co_sheet_mend.proofs.mended.push_mended.Goals as goal

pub returns : goal.returns
returns c =
    let made = c.args.made.now.items in
    let text = c.args.text.now in
    let repairs = repair_in c.in_ok-repairs.repairs in
    let lines : map line_view c.as_slice.result.now ≡ lines_of text = rw c.as_slice.ensures.value c.in_ok-lines.ensures in
    let by_text : mended_by repairs (map line_view c.as_slice.result.now) ≡ mended text =
    ap (mended_by repairs) lines ∙ same_mended repairs (repair_at (faults_of text)) c.in_ok-repairs.ensures (lines_of text) in
    IfOk-equal c.push_by.result _ _ _ c.push_by.ensures (ap (λ (b : List ℕ). made ++ b) by_text)

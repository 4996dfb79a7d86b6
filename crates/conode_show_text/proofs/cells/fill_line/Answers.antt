use Rattle.std.proofs.Common.{[], ◌∷◌, ◌++◌, ◌∙◌, ap, take_all}
use Rattle.conode_show_text.specs.Cells.{cell_part}
use Rattle.conode_show_text.specs.Layout.{placed}
use Rattle.conode_show_text.proofs.Steps.{folded_more}
use Rattle.conode_show_text.proofs.cells.fill_line.Goals as goal

pub loop-cell-preserved : goal.loop-cell-preserved
loop-cell-preserved c =
    let said = c.as_bytes.ensures.value ∙ (rw c.clear.ensures.bytes at c.in-Ok-push_content.ensures) in
    folded_more (λ line part. placed c.args.format part.column line part.text) (cell_part c.args.node) c.args.cells.now c.loop-cell.cell-index _ _ _ _
    c.loop-cell-test.true c.loop-cell.invariant (c.in-Ok-place.ensures ∙ ap (placed c.args.format _ c.loop-cell.line.items) said)

pub returns : goal.returns
returns c =
    let cells = rw (take_all c.loop-cell.cell-index c.args.cells.now c.loop-cell-test.false) at c.loop-cell.invariant in
    c.in-Ok-push.ensures.items ∙ ap (λ l. l ++ 10 ∷ []) cells

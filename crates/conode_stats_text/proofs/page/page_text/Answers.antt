use Rattle.std.proofs.lemmas.Result.{IfOk-weaker}
use Rattle.conode_stats_text.specs.Pages.{page_lines}
use Rattle.conode_stats_text.proofs.Appended.{both, whole}
use Rattle.conode_stats_text.proofs.page.page_text.Goals as goal

pub returns : goal.returns
returns c =
    let top = rw (c.new-paper.ensures, c.count_found-count.ensures) at c.push_top.ensures in
    let end = rw c.count_found-count.ensures at c.push_end.ensures in
    unfold page_lines in
    IfOk-weaker c.into_text.result _ _
    (λ text is. whole _ _ _
    (both _ _ _ _ _ top (both _ _ _ _ _ c.push_table.ensures (both _ _ _ _ _ c.push_node_table.ensures (both _ _ _ _ _ c.push_table-2.ensures end)))) is)
    c.into_text.ensures

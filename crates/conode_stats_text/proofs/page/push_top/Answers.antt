use Rattle.conode_stats_text.specs.Pages.{top_lines}
use Rattle.conode_stats_text.proofs.Appended.{both}
use Rattle.conode_stats_text.proofs.page.push_top.Goals as goal

pub returns : goal.returns
returns c =
    unfold top_lines in
    both _ _ _ _ _ c.put.ensures
    (both _ _ _ _ _ (rw c.most_at_top.ensures at c.push_found.ensures)
    (both _ _ _ _ _ c.push_count.ensures
    (both _ _ _ _ _ (rw c.left_out.ensures at c.push_count-2.ensures) c.push_nothing.ensures)))

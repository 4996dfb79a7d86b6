-- The lines by themselves, then with their head.
use Rattle.std.proofs.Common.{◌∙◌}
use Rattle.conode_text.proofs.Appending.{never_whole}
use Rattle.conode_show_text.proofs.Steps.{handed}
use Rattle.conode_show_text.proofs.chapters.put_chapter.Goals as goal

pub returns-in-Ok : goal.returns-in-Ok
returns-in-Ok c =
    let lines = c.as_slice.ensures.value ∙ handed _ _ _ _ c.new-body.ensures c.put_lines.ensures c.in-Ok.ensures in
    rw (lines, c.head_of.ensures) at c.put_body.ensures

pub returns-in-Err : goal.returns-in-Err
returns-in-Err c = rw c.fail.ensures (never_whole _ _)

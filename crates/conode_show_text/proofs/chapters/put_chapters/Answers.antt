-- One chapter after another.
use Rattle.std.proofs.Common.{◌∙◌}
use Rattle.conode_text.proofs.Appending.{both}
use Rattle.conode_show_text.specs.Document.{document}
use Rattle.conode_show_text.proofs.chapters.put_chapters.Goals as goal

pub returns : goal.returns
unfolding document
returns c =
    let head = rw (c.as_bytes.ensures.value ∙ c.head_of.ensures) at c.put.ensures in
    both (both (both head c.put_lines.ensures) c.put_chapter.ensures) c.put_chapter-2.ensures

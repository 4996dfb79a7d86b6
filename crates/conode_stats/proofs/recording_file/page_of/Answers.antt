-- The page of text is that of the counts.
use Rattle.std.proofs.Common.{refl, ap, vec_items, ◌∙◌}
use Rattle.conode_stats.proofs.recording_file.page_of.Goals as goal

pub returns-in-Ok : goal.returns-in-Ok
returns-in-Ok c text =
    (_, record { counted = refl; wrong = refl; facts = refl; rate = refl }, ap vec_items c.into_bytes.ensures.value ∙ c.in-Ok.ensures)

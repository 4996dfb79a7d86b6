use Rattle.conode_text.proofs.Appending.{ended}
use Rattle.conode_show_text.proofs.chapters.document.Goals as goal

pub returns : goal.returns
returns c = ended c.into_text.result (λ text. text.items) c.new-page.ensures c.put_chapters.ensures c.into_text.ensures

use Rattle.conode_explain_entries.proofs.Shown.{shown}
use Rattle.conode_explain_entries.proofs.laws.what_is_shown.Goals as goal

pub returns : goal.returns
returns c = shown

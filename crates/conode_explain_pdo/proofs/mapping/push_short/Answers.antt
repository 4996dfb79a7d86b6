use Rattle.conode_explain_pdo.specs.Mappings.{short_text}
use Rattle.conode_explain_pdo.proofs.mapping.push_short.Goals as goal

pub returns : goal.returns
unfolding short_text
returns c = rw c.unit_of.ensures at c.push_filled.ensures

use Rattle.conode_compare_documents.specs.Head.{head}
use Rattle.conode_compare_documents.proofs.head.push_head.Goals as goal

pub returns : goal.returns
unfolding head
returns c = c.put.ensures

use Rattle.co_node.proofs.Begins.{begins}
use Rattle.co_node.proofs.built_laws.begins_apart.Goals as goal

pub returns : goal.returns
returns c = begins

use Rattle.co_node_laws.proofs.Resets.{no_reset}
use Rattle.co_node_laws.proofs.kinds.changes_by_command.Goals as goal

pub returns : goal.returns
returns c = no_reset

use Rattle.co_node_parts.proofs.Sendings.{with_queued-snoc}
use Rattle.co_node_parts.proofs.emergencies.queued_last.Goals as goal

pub returns : goal.returns
returns c = with_queued-snoc

use Rattle.co_node_laws.proofs.EmergencyDistances.{sent_is}
use Rattle.co_node_laws.proofs.distances.emergency_sent.Goals as goal

pub returns : goal.returns
returns c = sent_is

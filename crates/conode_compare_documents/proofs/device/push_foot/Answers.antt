use Rattle.conode_compare_documents.specs.Device.{foot}
use Rattle.conode_compare_documents.proofs.device.push_foot.Goals as goal

pub returns : goal.returns
unfolding foot
returns c = c.put.ensures

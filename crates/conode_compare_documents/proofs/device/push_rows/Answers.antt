use Rattle.conode_compare_documents.specs.Device.{device_rows}
use Rattle.conode_compare_documents.proofs.device.push_rows.Goals as goal

pub returns : goal.returns
unfolding device_rows
returns c = c.put.ensures

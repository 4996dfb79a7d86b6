use Rattle.conode_compare_laws.proofs.Begins.{begins}
use Rattle.conode_compare_laws.proofs.built_devices.begins_aside.Goals as goal

pub returns : goal.returns
returns c = begins

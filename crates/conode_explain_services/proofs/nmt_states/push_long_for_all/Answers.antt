use Rattle.conode_explain_services.specs.NmtStates.{long_for_all}
use Rattle.conode_explain_services.proofs.nmt_states.push_long_for_all.Goals as goal

pub returns : goal.returns
unfolding long_for_all
returns c = rw c.command_name.ensures at c.push_filled.ensures

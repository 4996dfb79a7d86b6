use Rattle.conode_explain_laws.proofs.AllClients.{some_are_reported, all_are_reported}
use Rattle.conode_explain_laws.proofs.clients.client_transfers.Goals as goal

pub returns : goal.returns
returns c = record { done_is_reported = some_are_reported; reported_is_done = all_are_reported }

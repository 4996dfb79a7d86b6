use Rattle.conode_explain_laws.proofs.AllInputs.{some_are_set}
use Rattle.conode_explain_laws.proofs.AllOrderly.{all_are_done, plain_are_orderly}
use Rattle.conode_explain_laws.proofs.downloads.all_downloads.Goals as goal

pub returns : goal.returns
returns c = record { done_is_set = some_are_set; set_is_done = all_are_done; plain_is_orderly = plain_are_orderly }

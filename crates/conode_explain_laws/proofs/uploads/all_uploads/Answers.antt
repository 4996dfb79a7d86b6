use Rattle.conode_explain_laws.proofs.AllOrderly.{all_are_served}
use Rattle.conode_explain_laws.proofs.AllUploads.{some_are_served}
use Rattle.conode_explain_laws.proofs.uploads.all_uploads.Goals as goal

pub returns : goal.returns
returns c = record { done_is_served = some_are_served; served_is_done = all_are_served }

-- After every log.
use Rattle.conode_explain_transfers.proofs.DoneLemmas.{done_after}
use Rattle.conode_explain_transfers.proofs.laws.done_is_confirmed.Goals as goal

pub returns : goal.returns
returns c = λ log micros side frame. done_after log micros side frame

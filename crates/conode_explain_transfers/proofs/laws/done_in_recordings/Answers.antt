-- After every log.
use Rattle.conode_explain_transfers.proofs.HeardLemmas.{heard_done}
use Rattle.conode_explain_transfers.proofs.laws.done_in_recordings.Goals as goal

pub returns : goal.returns
returns c = λ log micros side frame. heard_done log micros side frame

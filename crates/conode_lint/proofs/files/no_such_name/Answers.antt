use Rattle.std.proofs.Common.{inl, inr}
use Rattle.conode_lint.proofs.SessionLemmas.{stopped_status}
use Rattle.conode_lint.proofs.files.no_such_name.Goals as goal

pub returns-in-Ok : goal.returns-in-Ok
returns-in-Ok g c = inr c.from.ensures

pub returns-in-Err : goal.returns-in-Err
returns-in-Err g c = inl (stopped_status c.stopped.result _ _ c.stopped.ensures.fault c.status.ensures)

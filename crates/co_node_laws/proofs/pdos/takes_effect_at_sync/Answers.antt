use Rattle.std.proofs.Common.{◌∙◌, ◌∷◌}
use Rattle.co_node_model.specs.Inputs.{Framed}
use Rattle.co_node_laws.proofs.RpdoLast.{last_accepted}
use Rattle.co_node_laws.proofs.RpdoWaits.{begins, waits, taken_by_sync}
use Rattle.co_node_laws.proofs.pdos.takes_effect_at_sync.Goals as goal

pub returns-clause-waits : goal.returns-clause-waits
returns-clause-waits c = λ k inputs later n frame is operational kind long all.
    waits k n (Framed frame ∷ inputs) later all ∙ begins k inputs n frame is operational kind long

pub returns-clause-taken : goal.returns-clause-taken
returns-clause-taken c = taken_by_sync

pub returns-clause-last : goal.returns-clause-last
returns-clause-last c = λ k inputs n frame waits. last_accepted k n inputs frame waits

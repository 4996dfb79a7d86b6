use Rattle.conode_compare_laws.proofs.TpdoLates.{no_pdo_late}
use Rattle.conode_compare_laws.proofs.tpdo_laws.no_pdo_late.Goals as goal

pub returns : goal.returns
returns c = λ k subject rows inputs is of keeps time control foreign begins beside none.
    no_pdo_late k subject rows inputs is of keeps time control foreign (c.sends_aside.ensures k inputs begins) beside none

use Rattle.conode_compare_laws.proofs.TpdoInhibits.{no_pdo_inhibit}
use Rattle.conode_compare_laws.proofs.tpdo_laws.no_pdo_inhibit.Goals as goal

pub returns : goal.returns
returns c = λ k subject rows inputs is of keeps time control foreign begins beside none.
    no_pdo_inhibit k subject rows inputs is of keeps time control foreign (c.sends_aside.ensures k inputs begins) beside none

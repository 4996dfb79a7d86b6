use Rattle.conode_compare_laws.proofs.TpdoStates.{no_pdo_state}
use Rattle.conode_compare_laws.proofs.tpdo_laws.no_pdo_state.Goals as goal

pub returns : goal.returns
returns c = λ k subject rows inputs is control foreign begins beside none.
    no_pdo_state k subject rows inputs is control foreign (c.sends_aside.ensures k inputs begins) beside none

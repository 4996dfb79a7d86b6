use Rattle.std.proofs.Common.{[]}
use Rattle.conode_compare_laws.proofs.AlwaysFitted.{filled_fitted}
use Rattle.conode_compare_laws.proofs.TpdoLengths.{no_pdo_length}
use Rattle.conode_compare_laws.proofs.tpdo_laws.no_pdo_length.Goals as goal

pub returns : goal.returns
returns c = λ k subject rows inputs is of keeps filled control foreign begins beside none.
    no_pdo_length k subject rows inputs is of keeps (filled_fitted k inputs [] filled) control foreign (c.sends_aside.ensures k inputs begins) beside none

use Rattle.conode_compare_laws.proofs.TpdoCycles.{no_pdo_sync}
use Rattle.conode_compare_laws.proofs.tpdo_laws.no_pdo_sync.Goals as goal

pub returns : goal.returns
returns c = λ k subject rows inputs is of keeps control emergency foreign begins beside none apart.
    no_pdo_sync k subject rows inputs is of keeps control emergency foreign (c.sends_aside.ensures k inputs begins) beside none apart

use Rattle.conode_compare_laws.proofs.TpdoCycles.{no_pdo_sync}
use Rattle.conode_compare_laws.proofs.tpdo_built.built_no_pdo_sync.Goals as goal

pub returns : goal.returns
returns c = λ plan k subject rows inputs built is of unset control emergency foreign beside none apart.
    no_pdo_sync k subject rows inputs is of (c.keeps_tpdos.ensures plan k inputs built unset) control emergency foreign (c.sends_aside.ensures k inputs (c.begins_aside.ensures plan k built)) beside none apart

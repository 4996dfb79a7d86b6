use Rattle.std.proofs.Common.{[]}
use Rattle.conode_compare_laws.proofs.AlwaysFitted.{all_fitted, built_fitted}
use Rattle.conode_compare_laws.proofs.TpdoLengths.{no_pdo_length}
use Rattle.conode_compare_laws.proofs.tpdo_built.built_no_pdo_length.Goals as goal

pub returns : goal.returns
returns c = λ plan k subject rows inputs built lawful is of unset control foreign beside none.
    no_pdo_length k subject rows inputs is of (c.keeps_tpdos.ensures plan k inputs built unset) (all_fitted k inputs [] (built_fitted c.set_is_permitted.ensures plan k built lawful)) control foreign
    (c.sends_aside.ensures k inputs (c.begins_aside.ensures plan k built)) beside none

use Rattle.std.proofs.Common.{sym, arith}
use Rattle.co_node_model.specs.Rpdos.{data_errors, with_data}
use Rattle.co_node_laws.proofs.SameSettings.{same_all_raised, same_both, same_mappings}
use Rattle.co_node_laws.proofs.settings.settings_kept.Goals as goal

pub returns-clause-raised : goal.returns-clause-raised
returns-clause-raised c = same_all_raised

pub returns-clause-taken : goal.returns-clause-taken
returns-clause-taken c = λ d contents rpdo.
    same_both contents (with_data d contents rpdo) _
    (record { same = λ key low high. sym (c.written_from_2000.ensures d contents rpdo.number rpdo.frame.bytes key (omega arith)) })
    (same_all_raised d.rows (data_errors d contents rpdo) (with_data d contents rpdo))

pub returns-clause-mappings : goal.returns-clause-mappings
returns-clause-mappings c = same_mappings

use Rattle.co_dict_placed.proofs.ChangeLaws.{by_keys, forgotten, none, noted}
use Rattle.co_dict_placed.proofs.changes.change_laws.Goals as goal

pub returns-clause-noted : goal.returns-clause-noted
returns-clause-noted c = noted

pub returns-clause-by_keys : goal.returns-clause-by_keys
returns-clause-by_keys c = by_keys

pub returns-clause-forgotten : goal.returns-clause-forgotten
returns-clause-forgotten c = forgotten

pub returns-clause-none : goal.returns-clause-none
returns-clause-none c = none
